-- The body of a function does in the frame of a caller what it does in its own.
use Rattle.std.proofs.Common.{◌≡◌, ℕ, ◌+◌, ◌<◌, List, length, map, Option, Some, None, refl, sym, ap, ◌∙◌, subst, arith}
use Rattle.std.specs.Prelude.{slice_set}
use Rattle.std.proofs.lemmas.List.{length-set}
use Rattle.std.proofs.lemmas.Bool.{lt-ltb}
use Rattle.high_ir.specs.declared.object.Base.{Base}
use Rattle.high_ir.specs.Meaning.{World, Variables, State, Outcome, Goes, Leaves, Returns, Given, Calls, Labels, after_call, keep, next_byte, objects_of, only_if, pass, run, run_all, then_do, value_of, values_of, with_value, written}
use Rattle.high_ir.specs.Tree.{Expr, Statement, Set, Put, Get, Keep, Mark, Seq, If, Loop, Block, Leave, Call, Return, Statements, End, Then}
use Rattle.high_renumber.specs.Keeping.{CallsServe, ServesCall}
use Rattle.inliner.specs.Moving.{Place, ended, moved, moved_all, moved_array, moved_base, moved_expr, moved_into}
use Rattle.inliner.proofs.Embedding.{Embeds, IsThere, Sees, Serves', Turned, left, sees_write, serves_block, serves_choose, serves_then, serves_turns, serves_value, serves_write}
use Rattle.inliner.proofs.Shifting.{Meets, keep_moved, objects_moved, value_moved, values_moved}

module _ (outer : Variables) (most size : ℕ) (arrays : List Base) (into : Option ℕ) (there : IsThere into outer) (passed old : List ℕ) (meets : Meets arrays passed old) where
  abbrev place : Place
  place = record { base = length outer; arrays = arrays; into = into }

  abbrev Here : ℕ → Outcome → Outcome → Type 0
  Here depth x y = Serves' outer most size (Turned depth into) x y

  pass_serves : (depth : ℕ) (o : Option ℕ) (vars vs : Variables) (w : World) (trace : List ℕ) → Embeds outer most size vars vs → Here depth (pass o (record { variables = vars; world = w; trace = trace })) (pass o (record { variables = vs; world = w; trace = trace }))
  pass_serves depth None vars vs w trace h = tt
  pass_serves depth (Some m) vars vs w trace h = (vs, refl, h)

  call_serves : (depth : ℕ) (target : Option ℕ) (vars vs : Variables) (o p : Option Given) → ServesCall o p → Embeds outer most size vars vs → Here depth (after_call vars target o) (after_call vs (moved_into (length outer) target) p)
  call_serves depth target vars vs None p k h = tt
  call_serves depth None vars vs (Some g) p k h = subst (λ q. Here depth (after_call vars None (Some g)) (after_call vs None q)) (sym k) (vs, refl, h)
  call_serves depth (Some x) vars vs (Some g) p k h =
      subst (λ q. Here depth (after_call vars (Some x) (Some g)) (after_call vs (Some (length outer + x)) q)) (sym k)
      (serves_write outer most size (Turned depth into) vars vs x g.value _ _ h (λ us ts j. (ts, refl, j)))

  module _ (l : Labels) (c d : Calls) (calls : CallsServe c d) where
    -- a return
    ended_serves : (depth : ℕ) (target : Option ℕ) → target ≡ into → (o : Option ℕ) (e : Expr) (vars vs : Variables) (w : World) (trace : List ℕ) → Embeds outer most size vars vs → ((v : ℕ) → o ≡ Some v → value_of passed vs w e ≡ Some v) →
        Here depth (with_value o (λ v. Returns v w trace)) (run l d passed (ended target depth e) (record { variables = vs; world = w; trace = trace }))
    ended_serves depth target is None e vars vs w trace h same = tt
    ended_serves depth None is (Some v) e vars vs w trace h same =
        (vs, refl, subst (λ t. Sees 0 (left outer t v) vs) is h.below, h.same)
    ended_serves depth (Some x) is (Some v) e vars vs w trace h same =
        let lt : x < length outer = subst (λ t. IsThere t outer) (sym is) there in
        let lt' : x < length vs = omega (arith, lt, h.room, h.same) in
        let z : 0 + x ≡ x = omega arith in
        let z' : 0 + x < length vs = omega (arith, lt') in
        let at : Variables → State = λ us. record { variables = us; world = w; trace = trace } in (
          slice_set vs x (Some v),
          ap (λ o. then_do (with_value o (λ u. with_value (written vs x u) (λ us. Goes (at us)))) (λ st. then_do (Leaves depth st) Goes)) (same v refl)
              ∙ ap (λ b. then_do (with_value (only_if b (Some (slice_set vs x (Some v)))) (λ us. Goes (at us))) (λ st. then_do (Leaves depth st) Goes)) (lt-ltb x (length vs) lt'),
          subst (λ t. Sees 0 (left outer t v) (slice_set vs x (Some v))) is (subst (λ n. Sees 0 (slice_set outer x (Some v)) (slice_set vs n (Some v))) z (sees_write 0 outer vs x v h.below lt z')),
          rw length-set h.same,
        )

    mutual
      pub run_moved : (depth : ℕ) (s : Statement) (vars vs : Variables) (w : World) (trace : List ℕ) → Embeds outer most size vars vs → Here depth (run l c old s (record { variables = vars; world = w; trace = trace })) (run l d passed (moved place depth s) (record { variables = vs; world = w; trace = trace }))
      run_moved depth (Set x e) vars vs w trace h =
          serves_value outer most size (Turned depth into) (value_of old vars w e) (value_of passed vs w (moved_expr place e)) _ _ (λ v. value_moved place passed old meets vars vs h.own w e v)
          (λ v. serves_write outer most size (Turned depth into) vars vs x v _ _ h (λ us ts k. (ts, refl, k)))
      run_moved depth (Put e) vars vs w trace h =
          serves_value outer most size (Turned depth into) (value_of old vars w e) (value_of passed vs w (moved_expr place e)) _ _ (λ v. value_moved place passed old meets vars vs h.own w e v) (λ v. (vs, refl, h))
      run_moved depth (Get x) vars vs w trace h = serves_write outer most size (Turned depth into) vars vs x (next_byte w.input) _ _ h (λ us ts k. (ts, refl, k))
      run_moved depth (Keep array i e) vars vs w trace h =
          serves_value outer most size (Turned depth into) (value_of old vars w i) (value_of passed vs w (moved_expr place i)) _ _ (λ v. value_moved place passed old meets vars vs h.own w i v)
          (λ n. serves_value outer most size (Turned depth into) (value_of old vars w e) (value_of passed vs w (moved_expr place e)) _ _ (λ v. value_moved place passed old meets vars vs h.own w e v)
          (λ v. serves_value outer most size (Turned depth into) (keep old w array n v) (keep passed w (moved_array arrays array) n v) _ _ (λ u. keep_moved place passed old meets w array n v u) (λ u. (vs, refl, h))))
      run_moved depth (Mark m) vars vs w trace h = pass_serves depth (l m) vars vs w trace h
      run_moved depth (Seq parts) vars vs w trace h = all_moved depth parts vars vs w trace h
      run_moved depth (If test a b) vars vs w trace h =
          serves_value outer most size (Turned depth into) (value_of old vars w test) (value_of passed vs w (moved_expr place test)) _ _ (λ v. value_moved place passed old meets vars vs h.own w test v)
          (λ v. serves_choose outer most size (Turned depth into) v _ _ _ _ (run_moved depth a vars vs w trace h) (run_moved depth b vars vs w trace h))
      run_moved depth (Loop id least most' body) vars vs w trace h =
          serves_turns outer most size (Turned depth into) most' least (run l c old body) (run l d passed (moved place depth body)) (λ us ts w' t' k. run_moved depth body us ts w' t' k) vars vs w trace h
      run_moved depth (Block body) vars vs w trace h = serves_block outer most size (Turned depth into) _ _ (run_moved (depth + 1) body vars vs w trace h)
      run_moved depth (Leave j) vars vs w trace h = λ within. (vs, refl, h)
      run_moved depth (Call f values bases target) vars vs w trace h =
          serves_value outer most size (Turned depth into) (values_of old vars w values) (values_of passed vs w (map (moved_expr place) values)) _ _ (λ xs. values_moved place passed old meets vars vs h.own w values xs)
          (λ xs. serves_value outer most size (Turned depth into) (objects_of old bases) (objects_of passed (map (moved_base arrays) bases)) _ _ (λ ns. objects_moved place passed old meets bases ns)
          (λ ns. call_serves depth target vars vs (c f xs ns w trace) (d f xs ns w trace) (calls.by f xs ns w trace) h))
      run_moved depth (Return e) vars vs w trace h =
          ended_serves depth into refl (value_of old vars w e) (moved_expr place e) vars vs w trace h (λ v is. value_moved place passed old meets vars vs h.own w e v is)

      all_moved : (depth : ℕ) (ss : Statements) (vars vs : Variables) (w : World) (trace : List ℕ) → Embeds outer most size vars vs → Here depth (run_all l c old ss (record { variables = vars; world = w; trace = trace })) (run_all l d passed (moved_all place depth ss) (record { variables = vs; world = w; trace = trace }))
      all_moved depth End vars vs w trace h = (vs, refl, h)
      all_moved depth (Then s rest) vars vs w trace h =
          serves_then outer most size (Turned depth into) _ _ _ _ (run_moved depth s vars vs w trace h) (λ us ts w' t' k. all_moved depth rest us ts w' t' k)
