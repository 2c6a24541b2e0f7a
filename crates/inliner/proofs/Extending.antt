-- A function's body with calls opened does in a larger frame what the body does in its own.
use Rattle.std.proofs.Common.{◌≡◌, ℕ, ◌+◌, ◌≤◌, Bool, true, false, List, [], Option, Some, None, refl, sym, subst, arith}
use Rattle.std.specs.Prelude.{slice_get}
use Rattle.high_ir.specs.Meaning.{World, Variables, Outcome, Given, Calls, Labels, after_call, keep, next_byte, objects_of, pass, run, run_all, value_of, values_of, with_value, written}
use Rattle.high_ir.specs.Tree.{Statement, Set, Put, Get, Keep, Mark, Seq, If, Loop, Block, Leave, Call, Return, Statements, End, Then, Function}
use Rattle.high_renumber.specs.Keeping.{CallsServe, ServesCall}
use Rattle.high_renumber.proofs.Serving.{Opens}
use Rattle.inliner.specs.declared.used.Used.{Used}
use Rattle.inliner.specs.Budgets.{fits}
use Rattle.inliner.specs.Opening.{Site, call_of}
use Rattle.inliner.specs.Walking.{at_call, opened, opened_all, opened_if}
use Rattle.inliner.proofs.Embedding.{Embeds, Kept, Serves', serves_block, serves_choose, serves_then, serves_turns, serves_value, serves_write}
use Rattle.inliner.proofs.OpenedCall.{open_serves}
use Rattle.inliner.proofs.Shifting.{value_same, values_same}

-- the next variable never falls
module _ (limit : ℕ) (fs : List Function) where
  next_if : (b : Bool) (used : Used) (s : Site) (h : Function) → used.next ≤ (opened_if b used s h).used.next
  next_if false used s h = omega arith
  next_if true used s h = omega arith

  next_call : (used : Used) (around : ℕ) (s : Site) (o : Option Function) → used.next ≤ (at_call limit used around s o).used.next
  next_call used around s None = omega arith
  next_call used around s (Some h) = next_if (fits limit used around s h) used s h

  mutual
    pub next_grows : (around : ℕ) (s : Statement) (used : Used) → used.next ≤ (opened limit fs around s used).used.next
    next_grows around (Set x e) used = omega arith
    next_grows around (Put e) used = omega arith
    next_grows around (Get x) used = omega arith
    next_grows around (Keep array i e) used = omega arith
    next_grows around (Mark m) used = omega arith
    next_grows around (Seq parts) used = next_all (around + 1) parts used
    next_grows around (If test a b) used =
        let first = opened limit fs (around + 1) a used in
        omega (arith, next_grows (around + 1) a used, next_grows (around + 1) b first.used)
    next_grows around (Loop id least most body) used = next_grows (around + 1) body used
    next_grows around (Block body) used = next_grows (around + 1) body used
    next_grows around (Leave j) used = omega arith
    next_grows around (Call f values arrays into) used = next_call used around (record { function = f; values = values; arrays = arrays; into = into }) (slice_get fs f)
    next_grows around (Return e) used = omega arith

    pub next_all : (around : ℕ) (ss : Statements) (used : Used) → used.next ≤ (opened_all limit fs around ss used).used.next
    next_all around End used = omega arith
    next_all around (Then s rest) used =
        let first = opened limit fs around s used in
        omega (arith, next_grows around s used, next_all around rest first.used)

module _ (own size : ℕ) (limit : ℕ) (fs : List Function) (passed : List ℕ) (l : Labels) (c d : Calls) (serve : CallsServe c d) (opens : Opens l fs c d) where
  abbrev Here : Outcome → Outcome → Type 0
  Here x y = Serves' [] own size Kept x y

  pass_kept : (o : Option ℕ) (vars vs : Variables) (w : World) (trace : List ℕ) → Embeds [] own size vars vs → Here (pass o (record { variables = vars; world = w; trace = trace })) (pass o (record { variables = vs; world = w; trace = trace }))
  pass_kept None vars vs w trace h = tt
  pass_kept (Some m) vars vs w trace h = (vs, refl, h)

  -- a write to the same variable
  write_kept : (vars vs : Variables) (x v : ℕ) (f g : Variables → Outcome) → Embeds [] own size vars vs → ((us ts : Variables) → Embeds [] own size us ts → Here (f us) (g ts)) → Here (with_value (written vars x v) f) (with_value (written vs x v) g)
  write_kept vars vs x v f g h k =
      let z : 0 + x ≡ x = omega arith in
      subst (λ n. Here (with_value (written vars x v) f) (with_value (written vs n v) g)) z (serves_write [] own size Kept vars vs x v f g h k)

  after_kept : (into : Option ℕ) (vars vs : Variables) (o p : Option Given) → ServesCall o p → Embeds [] own size vars vs → Here (after_call vars into o) (after_call vs into p)
  after_kept into vars vs None p k h = tt
  after_kept None vars vs (Some g) p k h = subst (λ q. Here (after_call vars None (Some g)) (after_call vs None q)) (sym k) (vs, refl, h)
  after_kept (Some x) vars vs (Some g) p k h =
      subst (λ q. Here (after_call vars (Some x) (Some g)) (after_call vs (Some x) q)) (sym k) (write_kept vars vs x g.value _ _ h (λ us ts j. (ts, refl, j)))

  -- a call that stays
  call_kept : (s : Site) (vars vs : Variables) (w : World) (trace : List ℕ) → Embeds [] own size vars vs → Here (run l c passed (call_of s) (record { variables = vars; world = w; trace = trace })) (run l d passed (call_of s) (record { variables = vs; world = w; trace = trace }))
  call_kept s vars vs w trace h =
      serves_value [] own size Kept (values_of passed vars w s.values) (values_of passed vs w s.values) _ _ (λ xs. values_same passed vars vs h.own w s.values xs)
      (λ xs. serves_value [] own size Kept (objects_of passed s.arrays) (objects_of passed s.arrays) _ _ (λ ns is. is)
      (λ ns. after_kept s.into vars vs (c s.function xs ns w trace) (d s.function xs ns w trace) (serve.by s.function xs ns w trace) h))

  call_if : (b : Bool) (used : Used) (s : Site) (h : Function) → slice_get fs s.function ≡ Some h → own ≤ used.next → (opened_if b used s h).used.next ≤ size → (vars vs : Variables) (w : World) (trace : List ℕ) → Embeds [] own size vars vs →
      Here (run l c passed (call_of s) (record { variables = vars; world = w; trace = trace })) (run l d passed (opened_if b used s h).statement (record { variables = vs; world = w; trace = trace }))
  call_if false used s h found least fit vars vs w trace emb = call_kept s vars vs w trace emb
  call_if true used s h found least fit vars vs w trace emb = open_serves own used.next size least passed l d vars w trace s h fit fs c opens found vs emb

  call_serves : (used : Used) (around : ℕ) (s : Site) (o : Option Function) → slice_get fs s.function ≡ o → own ≤ used.next → (at_call limit used around s o).used.next ≤ size → (vars vs : Variables) (w : World) (trace : List ℕ) → Embeds [] own size vars vs →
      Here (run l c passed (call_of s) (record { variables = vars; world = w; trace = trace })) (run l d passed (at_call limit used around s o).statement (record { variables = vs; world = w; trace = trace }))
  call_serves used around s None found least fit vars vs w trace emb = call_kept s vars vs w trace emb
  call_serves used around s (Some h) found least fit vars vs w trace emb = call_if (fits limit used around s h) used s h found least fit vars vs w trace emb

  mutual
    pub run_opened : (around : ℕ) (s : Statement) (used : Used) → own ≤ used.next → (opened limit fs around s used).used.next ≤ size → (vars vs : Variables) (w : World) (trace : List ℕ) → Embeds [] own size vars vs →
        Here (run l c passed s (record { variables = vars; world = w; trace = trace })) (run l d passed (opened limit fs around s used).statement (record { variables = vs; world = w; trace = trace }))
    run_opened around (Set x e) used least fit vars vs w trace h =
        serves_value [] own size Kept (value_of passed vars w e) (value_of passed vs w e) _ _ (λ v. value_same passed vars vs h.own w e v)
        (λ v. write_kept vars vs x v _ _ h (λ us ts k. (ts, refl, k)))
    run_opened around (Put e) used least fit vars vs w trace h =
        serves_value [] own size Kept (value_of passed vars w e) (value_of passed vs w e) _ _ (λ v. value_same passed vars vs h.own w e v) (λ v. (vs, refl, h))
    run_opened around (Get x) used least fit vars vs w trace h = write_kept vars vs x (next_byte w.input) _ _ h (λ us ts k. (ts, refl, k))
    run_opened around (Keep array i e) used least fit vars vs w trace h =
        serves_value [] own size Kept (value_of passed vars w i) (value_of passed vs w i) _ _ (λ v. value_same passed vars vs h.own w i v)
        (λ n. serves_value [] own size Kept (value_of passed vars w e) (value_of passed vs w e) _ _ (λ v. value_same passed vars vs h.own w e v)
        (λ v. serves_value [] own size Kept (keep passed w array n v) (keep passed w array n v) _ _ (λ u is. is) (λ u. (vs, refl, h))))
    run_opened around (Mark m) used least fit vars vs w trace h = pass_kept (l m) vars vs w trace h
    run_opened around (Seq parts) used least fit vars vs w trace h = all_opened (around + 1) parts used least fit vars vs w trace h
    run_opened around (If test a b) used least fit vars vs w trace h =
        let first = opened limit fs (around + 1) a used in
        serves_value [] own size Kept (value_of passed vars w test) (value_of passed vs w test) _ _ (λ v. value_same passed vars vs h.own w test v)
        (λ v. serves_choose [] own size Kept v _ _ _ _
        (run_opened (around + 1) a used least (omega (arith, fit, next_grows limit fs (around + 1) b first.used)) vars vs w trace h)
        (run_opened (around + 1) b first.used (omega (arith, least, next_grows limit fs (around + 1) a used)) fit vars vs w trace h))
    run_opened around (Loop id least' most body) used least fit vars vs w trace h =
        serves_turns [] own size Kept most least' (run l c passed body) (run l d passed (opened limit fs (around + 1) body used).statement) (λ us ts w' t' k. run_opened (around + 1) body used least fit us ts w' t' k) vars vs w trace h
    run_opened around (Block body) used least fit vars vs w trace h = serves_block [] own size Kept _ _ (run_opened (around + 1) body used least fit vars vs w trace h)
    run_opened around (Leave j) used least fit vars vs w trace h = λ within. (vs, refl, h)
    run_opened around (Call f values arrays into) used least fit vars vs w trace h =
        call_serves used around (record { function = f; values = values; arrays = arrays; into = into }) (slice_get fs f) refl least fit vars vs w trace h
    run_opened around (Return e) used least fit vars vs w trace h =
        serves_value [] own size Kept (value_of passed vars w e) (value_of passed vs w e) _ _ (λ v. value_same passed vars vs h.own w e v) (λ v. refl)

    all_opened : (around : ℕ) (ss : Statements) (used : Used) → own ≤ used.next → (opened_all limit fs around ss used).used.next ≤ size → (vars vs : Variables) (w : World) (trace : List ℕ) → Embeds [] own size vars vs →
        Here (run_all l c passed ss (record { variables = vars; world = w; trace = trace })) (run_all l d passed (opened_all limit fs around ss used).parts (record { variables = vs; world = w; trace = trace }))
    all_opened around End used least fit vars vs w trace h = (vs, refl, h)
    all_opened around (Then s rest) used least fit vars vs w trace h =
        let first = opened limit fs around s used in
        serves_then [] own size Kept _ _ _ _
        (run_opened around s used least (omega (arith, fit, next_all limit fs around rest first.used)) vars vs w trace h)
        (λ us ts w' t' k. all_opened around rest first.used (omega (arith, least, next_grows limit fs around s used)) fit us ts w' t' k)
