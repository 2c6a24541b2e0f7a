-- A call of the source, and the same call in the high program.
use Rattle.std.proofs.Common.{◌≡◌, ℕ, zero, suc, ◌+◌, ◌<◌, ◌≤◌, Bool, true, false, List, [], ◌∷◌, ◌++◌, length, Option, Some, None, refl, sym, ap, ◌∙◌, subst, arith}
use Rattle.std.specs.Prelude.{◌&&◌, nat_lt, slice_get, slice_index_or}
use Rattle.std.proofs.lemmas.Bool.{false≢true, le-leb, lt-ltb, ltb-true}
use Rattle.meaning_semantics.specs.Runs.{calls, enter, given_back, or_zero}
use Rattle.meaning_semantics.specs.State as source
use Rattle.meaning_semantics.specs.Statements.{entered, run_items}
use Rattle.meaning_semantics.specs.Values as values
use Rattle.meaning_semantics.specs.declared.outcome.Flow.{Flow}
use Rattle.meaning_semantics.specs.declared.outcome.Flow.TheVariants.{Onward, Break, Continue, Return}
use Rattle.c_tree.specs.declared.expression.Specifier.{Specifier}
use Rattle.types_tree.specs.Tree as c
use Rattle.high_ir.specs.declared.object.Kind.{Kind}
use Rattle.high_ir.specs.Tree as high
use Rattle.high_ir.specs.Tree.{Constant}
use Rattle.high_ir.specs.Meaning.{World, State, Outcome, Goes, Leaves, Calls, pass, then_do, out_of_block, run, run_all}
use Rattle.high_ir.specs.Runs as runs
use Rattle.high_ir.specs.Runs.{frame, given, only_good, takes}
use Rattle.high_code.specs.Code.{alone}
use Rattle.plan_definition.specs.Statements.{all_planned}
use Rattle.plan_runs.specs.Claims.{Setting, IsSetting, Handed, Answers, GivesBack, CallsMeet, MeetsIn}
use Rattle.plan_runs.specs.ExpressionFits.{Signatures}
use Rattle.plan_runs.specs.Meets.{Layout, IsLayout, MeetsWorld, Untouched}
use Rattle.plan_runs.proofs.Holding.{untouched_then}
use Rattle.plan_runs.specs.Flows.{Rest, Comes, GivesUp, GoesBy, Does}
use Rattle.plan_runs.proofs.Declaring.{zero_range}
use Rattle.plan_runs.proofs.Following.{follows}
use Rattle.plan_runs.proofs.Marks.{counted_world}
use Rattle.plan_runs.specs.Serves.{AllServe, Serves, are_from, at_entry, out_of_body, plan_with, source_with, words_in}
use Rattle.plan_runs.proofs.Binding.{Binds, Bound, binds}
use Rattle.plan_runs.proofs.Parameters.{frame_holds, frame_length, from_parts, handed_arrays, handed_values, parameter_below, takes_is}

none_below : (r : ℕ) → r < 0 → ⊥
none_below r lt = omega (arith, lt)

at_most : (r n : ℕ) → r < suc n → r ≤ n
at_most r n lt = omega (arith, lt)

itself : (n : ℕ) → n ≤ n
itself n = omega arith

are_here : (first count o : ℕ) → first ≤ o → o < first + count → are_from first count o ≡ true
are_here first count o le lt = ap (λ b. b && nat_lt o (first + count)) (le-leb first o le) ∙ lt-ltb o (first + count) lt

-- the body of a function, and the end of its block
abbrev body_run : (s : Setting) (code : high.Statements) → State → Outcome
body_run s code hs = run Some s.high_call s.passed (high.Seq (high.Then (high.Block (high.Seq code)) (alone (high.Return (Constant 0))))) hs

module _ (s : Setting) (range : Kind) (code : high.Statements) (k : ℕ) (st : source.State) (hs : State) (rank : ℕ) (st0 : source.State) (first : Untouched s.layout rank st0.objects st.objects) (rank_is : rank ≡ s.layout.rank s.function.number) where
  -- a body that comes to its end gives no value
  ends_open : (way : State → Outcome) → ((h : State) → out_of_block (way h) ≡ Goes h) → (st1 : source.State) → Comes s range code k st hs st1 way → Answers s.layout rank range st0 None st1 (given (body_run s code hs))
  ends_open way goes st1 c = record {
    given = record { value = 0; world = c.behind.world; trace = c.behind.trace };
    runs = ap (λ o. given (then_do (out_of_block o) (run_all Some s.high_call s.passed (alone (high.Return (Constant 0)))))) c.runs ∙ ap (λ o. given (then_do o (run_all Some s.high_call s.passed (alone (high.Return (Constant 0)))))) (goes c.behind);
    value = refl;
    meets = c.reached.meets.world;
    untouched = untouched_then s.layout rank st0.objects st.objects st1.objects first (subst (λ r. Untouched s.layout r st.objects st1.objects) (sym rank_is) c.reached.untouched);
    range_is = zero_range range;
  }

  ends_given : (value : Option ℕ) (st1 : source.State) → GivesUp s range code st hs value st1 → Answers s.layout rank range st0 value st1 (given (body_run s code hs))
  ends_given value st1 g = record {
    given = record { value = or_zero value; world = g.world; trace = g.trace };
    runs = ap (λ o. given (then_do (out_of_block o) (run_all Some s.high_call s.passed (alone (high.Return (Constant 0)))))) g.runs;
    value = refl;
    meets = g.meets;
    untouched = untouched_then s.layout rank st0.objects st.objects st1.objects first (subst (λ r. Untouched s.layout r st.objects st1.objects) (sym rank_is) g.untouched);
    range_is = g.range_is;
  }

  body_answers : (flow : Flow) (st1 : source.State) → GoesBy s range out_of_body code k st hs flow st1 → Answers s.layout rank range st0 (given_back flow) st1 (given (body_run s code hs))
  body_answers Onward st1 g = ends_open Goes (λ h. refl) st1 g
  body_answers Break st1 g = ends_open (Leaves 0) (λ h. refl) st1 g
  body_answers Continue st1 g = ends_open (Leaves 0) (λ h. refl) st1 g
  body_answers (Return value) st1 g = ends_given value st1 g

  pub body_gives_back : (o : source.Outcome Flow) → Does s range out_of_body code k st hs o → GivesBack s.layout rank range st0 (source.then_do o (λ flow st1. source.Fine (given_back flow) st1)) (given (body_run s code hs))
  body_gives_back (source.Stopped stop) d = tt
  body_gives_back (source.Fine flow st1) d = body_answers flow st1 d

module _ (layout : Layout) (placed : IsLayout layout) (signatures : Signatures) (rest : Rest) (fs : List high.Function) (serve : AllServe layout signatures rest fs) where
  -- fewer nested calls do what more do
  calls_below : (m n : ℕ) → m ≤ n → (call : values.Calls) (high_call : Calls) → CallsMeet layout signatures n call high_call → CallsMeet layout signatures m call high_call
  calls_below m n le call high_call c = record { by = λ g at words vs ns st w trace lt handed meets. c.by g at words vs ns st w trace (omega (arith, le, lt)) handed meets }

  -- one call, where those that it makes do what they mean
  module _ (n number first : ℕ) (body : c.Items) (h : high.Function) (v : Serves layout signatures rest number first body h) (inner : CallsMeet layout signatures (layout.rank number) (calls (source_with layout rest) n) (runs.calls Some fs n)) (vs ns : List ℕ) where
    abbrev s : Setting
    s = record { layout = layout; signatures = signatures; function = at_entry layout signatures number first v.variables; passed = ns; room = h.values + h.locals; call = calls (source_with layout rest) n; high_call = runs.calls Some fs n }

    s_ok : IsSetting s
    s_ok = record {
      calls = inner;
      falls = λ g callable. ltb-true (layout.rank g) (layout.rank number) callable;
      placed = placed;
      below = λ o x lives live. let parts = from_parts first (length (signatures.parameters number)) o live in among x (parameter_below layout (signatures.parameters number) first 0 0 v.parameters o x parts.0 parts.1 lives);
      owned = v.owned;
    }
      where
        among : (x : ℕ) → x < 0 + words_in (signatures.parameters number) → x < v.variables
        among x lt = enough x (words_in (signatures.parameters number)) v.variables lt v.enough
          where
            enough : (x a b : ℕ) → x < 0 + a → a ≤ b → x < b
            enough x a b lt le = omega (arith, lt, le)

    abbrev frame_at : World → List ℕ → State
    frame_at w trace = record { variables = frame h vs; world = w; trace = trace ++ number ∷ [] }

    bound_meets : (st st1 : source.State) (w : World) (trace : List ℕ) → length vs ≡ h.values → Bound layout placed number w (trace ++ number ∷ []) (frame h vs) ns first (length (signatures.parameters number)) st st1 → MeetsIn s st1 (frame_at w trace)
    bound_meets st st1 w trace size b = record {
      world = b.world;
      frame = record {
        words = λ o x u lives live holds. let parts = from_parts first (length (signatures.parameters number)) o live in b.stand.words o x u parts.0 parts.1 lives holds;
        passes = λ o j q a lives base live holds. let parts = from_parts first (length (signatures.parameters number)) o live in b.stand.passes o j q a parts.0 parts.1 lives base holds;
      };
      room_is = frame_length h vs size;
    }

    enters : (specifiers : List Specifier) (name name_at : ℕ) (params : List c.Param) (body_at function_at at : ℕ) (words : List ℕ) (st : source.State) (w : World) (trace : List ℕ) → Handed layout (signatures.parameters number) words vs ns → MeetsWorld layout st w trace →
        GivesBack layout (layout.rank number) (signatures.results number) st (enter (source_with layout rest) (calls (source_with layout rest) n) (Some (c.Defined specifiers name name_at params first body body_at function_at)) number words at st)
        (runs.enter Some (Some h) (runs.calls Some fs n) number vs ns w trace)
    enters specifiers name name_at params body_at function_at at words st w trace handed meets =
        subst (GivesBack layout (layout.rank number) (signatures.results number) st (enter (source_with layout rest) (calls (source_with layout rest) n) (Some (c.Defined specifiers name name_at params first body body_at function_at)) number words at st))
        (sym (entered_is (takes h vs ns) (takes_is h vs ns size (handed_arrays layout (signatures.parameters number) words vs ns handed ∙ sym v.arrays_are))))
        (of (source.bound first at words (source.counted number st))
        (binds layout placed number w (trace ++ number ∷ []) (frame h vs) ns (signatures.parameters number) first 0 0 at v.parameters (λ o le lt. v.owned o (are_here first (length (signatures.parameters number)) o le lt)) words vs ns handed
        (words_there, arrays_there) (source.counted number st) (counted_world layout number st w trace meets)))
      where
        size : length vs ≡ h.values
        size = handed_values layout (signatures.parameters number) words vs ns handed ∙ sym v.values_are

        code : high.Statements
        code = all_planned (plan_with layout rest) body v.variables out_of_body

        from_zero : (i : ℕ) → i ≡ 0 + i
        from_zero i = omega arith

        words_there : (i u : ℕ) → slice_get vs i ≡ Some u → slice_index_or (frame h vs) (0 + i) None ≡ Some u
        words_there i u is = subst (λ j. slice_index_or (frame h vs) j None ≡ Some u) (from_zero i) (frame_holds vs h.locals i u is)

        arrays_there : (i m : ℕ) → slice_get ns i ≡ Some m → slice_get ns (0 + i) ≡ Some m
        arrays_there i m is = subst (λ j. slice_get ns j ≡ Some m) (from_zero i) is

        entered_is : (b : Bool) → b ≡ true → given (only_good b (then_do (pass (Some number) (record { variables = frame h vs; world = w; trace = trace })) (run Some (runs.calls Some fs n) ns h.body))) ≡ given (body_run s code (frame_at w trace))
        entered_is false e = absurd (false≢true e)
        entered_is true e = ap (λ t. given (run Some (runs.calls Some fs n) ns t (frame_at w trace))) v.body_is

        of : (o : source.Outcome Flow) → Binds layout placed number w (trace ++ number ∷ []) (frame h vs) ns first (length (signatures.parameters number)) (source.counted number st) o →
            GivesBack layout (layout.rank number) (signatures.results number) st (source.then_do o (λ flow st1. source.then_do (run_items (source_with layout rest) (calls (source_with layout rest) n) body (entered body st1)) (λ flow st2. source.Fine (given_back flow) st2)))
            (given (body_run s code (frame_at w trace)))
        of (source.Stopped stop) b = tt
        of (source.Fine flow st1) b =
            body_gives_back s (signatures.results number) code v.variables st1 (frame_at w trace) (layout.rank number) st b.untouched refl
            (run_items (source_with layout rest) (calls (source_with layout rest) n) body (entered body st1))
            ((follows (signatures.results number) rest s s_ok (c.Block body 0) v.fits).by v.variables out_of_body (itself v.variables) st1 (frame_at w trace) (bound_meets (source.counted number st) st1 w trace size b) v.within)

  -- a call of a served function
  call_gives : (n g at : ℕ) (words vs ns : List ℕ) (st : source.State) (w : World) (trace : List ℕ) → CallsMeet layout signatures (layout.rank g) (calls (source_with layout rest) n) (runs.calls Some fs n) → Handed layout (signatures.parameters g) words vs ns → MeetsWorld layout st w trace →
      GivesBack layout (layout.rank g) (signatures.results g) st (calls (source_with layout rest) (suc n) g words at st) (runs.calls Some fs (suc n) g vs ns w trace)
  call_gives n g at words vs ns st w trace inner handed meets = of (slice_get rest.functions g) refl
    where
      of : (f : Option c.Function) → slice_get rest.functions g ≡ f → GivesBack layout (layout.rank g) (signatures.results g) st (enter (source_with layout rest) (calls (source_with layout rest) n) f g words at st) (runs.calls Some fs (suc n) g vs ns w trace)
      of None is = tt
      of (Some (c.Defined specifiers name name_at params first body body_at function_at)) is =
          let served = serve.by g (c.Defined specifiers name name_at params first body body_at function_at) is in
          subst (λ h. GivesBack layout (layout.rank g) (signatures.results g) st (enter (source_with layout rest) (calls (source_with layout rest) n) (Some (c.Defined specifiers name name_at params first body body_at function_at)) g words at st) (runs.enter Some h (runs.calls Some fs n) g vs ns w trace))
          (sym served.there) (enters n g first body served.function served.serves inner vs ns specifiers name name_at params body_at function_at at words st w trace handed meets)

  -- calls that are nested so deep do what they mean, where ranks are lower
  pub calls_meet : (n : ℕ) → CallsMeet layout signatures n (calls (source_with layout rest) n) (runs.calls Some fs n)
  calls_meet zero = record { by = λ g at words vs ns st w trace lt handed meets. absurd (none_below (layout.rank g) lt) }
  calls_meet (suc n) =
      let fewer = calls_meet n in
      record {
        by = λ g at words vs ns st w trace lt handed meets.
            call_gives n g at words vs ns st w trace (calls_below (layout.rank g) n (at_most (layout.rank g) n lt) (calls (source_with layout rest) n) (runs.calls Some fs n) fewer) handed meets;
      }
