-- Calls do the same under narrower and wider bounds.
use Rattle.std.proofs.Common.{◌≡◌, ◌⊎◌, inl, ⊎_elim, refl, sym, ap, ◌∙◌, subst, ℕ, zero, suc, ◌+◌, ◌<◌, ◌≤◌, Bool, true, false, List, [], ◌∷◌, length, Option, Some, None, arith}
use Rattle.std.specs.Prelude.{◌&&◌, nat_le, nat_lt, slice_get, slice_set, if◌then◌else◌}
use Rattle.std.proofs.lemmas.Bool.{and_parts, cases_eq, false≢true, le-leb, leb-true, lt-ltb, ltb-true}
use Rattle.std.proofs.lemmas.Option.{same_Some}
use Rattle.facts_definitions.specs.declared.facts.Bounds.{Bounds}
use Rattle.meaning_semantics.specs.Runs.{calls, enter, given_back}
use Rattle.meaning_semantics.specs.State.{State, Outcome, Fine, Stopped, bound, counted, stored, then_do, with_objects, write}
use Rattle.meaning_semantics.specs.Statements.{Source, entered, run_items}
use Rattle.meaning_semantics.specs.declared.outcome.Flow.{Flow}
use Rattle.meaning_semantics.specs.declared.outcome.Stop.TheVariants.{Undefined}
use Rattle.c_tree.specs.declared.expression.Specifier.{Specifier}
use Rattle.types_tree.specs.Tree as c
use Rattle.types_tree.specs.declared.variable.Variable.{Variable}
use Rattle.plan_runs.specs.Serves.{AllServe, AreParameters, Serves, at_entry, source_with}
use Rattle.plan_served.specs.Places.{IsHome}
use Rattle.plan_runs.specs.Flows.{Rest}
use Rattle.high_ir.specs.Tree as high
use Rattle.plan_runs.proofs.Cells.{slice_get-set_other}
use Rattle.plan_runs.specs.ExpressionFits.{Formal, OfWord, OfArray, Function, Signatures}
use Rattle.plan_runs.specs.Meets.{IsLayout, Layout, Untouched, home, is_own, is_passed}
use Rattle.facts_loops.specs.CountingLoops.{function_loops, items_loops}
use Rattle.counting_laws.proofs.Alike.{Alike, Comes, alike_then, alike_undefined}
use Rattle.counting_laws.proofs.Counted.{set_begins, set_there}
use Rattle.counting_laws.proofs.Declaring.{with_bounds}
use Rattle.plan_law.proofs.DerivedLists.{Each}
use Rattle.counting_laws.proofs.Objects.{Begins, Names, Row, Stays}
use Rattle.counting_laws.proofs.Settings.{CallsAlike, HandedTo, IsRun}
use Rattle.counting_laws.proofs.Statements.{LoopFits, follows}

nothing_there : (a b : ℕ) → a ≤ b → b < a + 0 → ⊥
nothing_there a b le lt = omega (arith, le, lt)

above : (a b : ℕ) → a ≤ b → (b ≡ a → ⊥) → a + 1 ≤ b
above a b le other = omega (arith, le, other)

behind : (a b n : ℕ) → b < a + suc n → b < a + 1 + n
behind a b n lt = omega (arith, lt)

up : (a b : ℕ) → a + 1 ≤ b → a ≤ b
up a b le = omega (arith, le)

down : (a n b : ℕ) → b < a + 1 + n → b < a + suc n
down a n b lt = omega (arith, lt)

in_first : (a n : ℕ) → a < a + suc n
in_first a n = omega arith

itself : (a : ℕ) → a ≤ a
itself a = omega arith

not_above : (a : ℕ) → a + 1 ≤ a → ⊥
not_above a le = omega (arith, le)

below_itself : (n : ℕ) → n < n → ⊥
below_itself n lt = omega (arith, lt)

-- a write replaces the first word of an object, or is undefined
write_first : (C : Outcome ℕ → Type 0) (object at w : ℕ) (st : State) → ((rule at : ℕ) → C (Stopped (Undefined rule at))) →
    ((new : Row) → slice_get (slice_set st.objects object new) object ≡ Some new → Begins new w → C (Fine w (with_objects st (slice_set st.objects object new)))) → C (write (record { object = object; index = 0; at = at }) w st)
write_first C object at w st stops fine = of (slice_get st.objects object) refl
  where
    of_test : (row : Row) → slice_get st.objects object ≡ Some row → (b : Bool) → nat_lt 0 (length row) ≡ b → C (if b then Fine w (with_objects st (slice_set st.objects object (slice_set row 0 (Some w)))) else Stopped (Undefined 0 at))
    of_test row is true lt = fine (slice_set row 0 (Some w)) (set_there st.objects object row (slice_set row 0 (Some w)) is) (set_begins row w lt)
    of_test row is false lt = stops 0 at

    of : (row : Option Row) → slice_get st.objects object ≡ row → C (stored row (record { object = object; index = 0; at = at }) w st)
    of None is = stops 0 at
    of (Some row) is = of_test row is (nat_lt 0 (length row)) refl

-- what was bound to the parameters from one on
module _ (layout : Layout) (blamed : ℕ → Type 0) where
  pub record Bound (first count : ℕ) (st st1 : State) : Type 0 where
    pub names : (o q : ℕ) (row : Row) → first ≤ o → o < first + count → is_passed (home layout o) ≡ true → slice_get st1.objects o ≡ Some row → Begins row q → is_own (home layout q) ≡ false
    pub others : (o : ℕ) → (first ≤ o → o < first + count → ⊥) → slice_get st1.objects o ≡ slice_get st.objects o

  abbrev Binds : (first count : ℕ) → State → Flow → State → Type 0
  Binds first count st flow st1 = Bound first count st st1

  -- one parameter before others
  module _ (first count w : ℕ) (st : State) (new : Row) (there : slice_get (slice_set st.objects first new) first ≡ Some new) (begins : Begins new w) (fits : is_passed (home layout first) ≡ true → is_own (home layout w) ≡ false) where
    abbrev written : State
    written = with_objects st (slice_set st.objects first new)

    one_bound : (st1 : State) → Bound (first + 1) count written st1 → Bound first (suc count) st st1
    one_bound st1 b = record {
      names = λ o q row le lt passed at is. ⊎_elim
          (λ (same : o ≡ first).
          let kept : slice_get st1.objects first ≡ Some new = b.others first (λ from below. not_above first from) ∙ there in
          let row_is : row ≡ new = same_Some row new (sym at ∙ (ap (slice_get st1.objects) same ∙ kept)) in
          let word : q ≡ w = same_Some q w (same_Some (Some q) (Some w) (sym is ∙ (ap (λ r. slice_get r 0) row_is ∙ begins))) in
          ap (λ x. is_own (home layout x)) word ∙ fits (ap (λ x. is_passed (home layout x)) (sym same) ∙ passed))
          (λ (other : o ≡ first → ⊥). b.names o q row (above first o le other) (behind first o count lt) passed at is)
          (cases_eq o first);
      others = λ o out. b.others o (λ from below. out (up first o from) (down first count o below)) ∙ slice_get-set_other st.objects first o new (λ same. out (subst (λ x. first ≤ x) (sym same) (itself first)) (subst (λ x. x < first + suc count) (sym same) (in_first first count)));
    }

    bound_comes : (o : Outcome Flow) → Comes blamed (Binds (first + 1) count written) o → Comes blamed (Binds first (suc count) st) o
    bound_comes (Fine flow st1) b = one_bound st1 b
    bound_comes (Stopped stop) b = b

  -- the words of a call are written into its parameters
  pub binds : (formals : List Formal) (first variable parameter at : ℕ) → AreParameters layout first variable parameter formals → (words : List ℕ) → HandedTo layout formals words → (st : State) → Comes blamed (Binds first (length formals) st) (bound first at words st)
  binds [] first variable parameter at are [] handed st = record { names = λ o q row le lt passed there is. absurd (nothing_there first o le lt); others = λ o out. refl }
  binds [] first variable parameter at are (w ∷ words) handed st = absurd handed
  binds (formal ∷ formals) first variable parameter at are [] handed st = absurd handed
  binds (OfWord kind ∷ formals) first variable parameter at are (w ∷ words) handed st =
      write_first (λ o. Comes blamed (Binds first (suc (length formals)) st) (then_do o (λ written st1. bound (first + 1) at words st1))) first at w st (λ rule place. tt)
      (λ new there begins.
      bound_comes first (length formals) w st new there begins (λ passed. absurd (false≢true (sym (ap is_passed are.0) ∙ passed))) (bound (first + 1) at words (with_objects st (slice_set st.objects first new)))
      (binds formals (first + 1) (variable + 1) parameter at are.2 words handed (with_objects st (slice_set st.objects first new))))
  binds (OfArray kind constant ∷ formals) first variable parameter at are (w ∷ words) handed st =
      write_first (λ o. Comes blamed (Binds first (suc (length formals)) st) (then_do o (λ written st1. bound (first + 1) at words st1))) first at w st (λ rule place. tt)
      (λ new there begins.
      bound_comes first (length formals) w st new there begins (λ passed. handed.0) (bound (first + 1) at words (with_objects st (slice_set st.objects first new)))
      (binds formals (first + 1) variable (parameter + 1) at are.3 words handed.1 (with_objects st (slice_set st.objects first new))))

below : (a b c : ℕ) → a < b → b ≤ c → a < c
below a b c lt le = omega (arith, lt, le)

at_most : (a b : ℕ) → a < b → a ≤ b
at_most a b lt = omega (arith, lt)

one_less : (a n : ℕ) → a < suc n → a ≤ n
one_less a n lt = omega (arith, lt)

none_below : (r : ℕ) → r < 0 → ⊥
none_below r lt = omega (arith, lt)

module _ (layout : Layout) (placed : IsLayout layout) (signatures : Signatures) (rest : Rest) (wide_bounds : List Bounds) (blamed : ℕ → Type 0) (homes : (o : ℕ) (v : Variable) → slice_get layout.variables o ≡ Some v → IsHome v.duration v.extent (home layout o))
    (fs : List high.Function) (serve : AllServe layout signatures rest fs) (loops : (g : ℕ) (f : c.Function) → slice_get rest.functions g ≡ Some f → Each (LoopFits blamed rest.bounds wide_bounds) (function_loops layout.variables f)) where
  abbrev ns : Source
  ns = source_with layout rest

  abbrev ws : Source
  ws = source_with layout (with_bounds rest wide_bounds)

  -- one call, where those that it makes are alike
  module _ (n number first : ℕ) (body : c.Items) (h : high.Function) (v : Serves layout signatures rest number first body h) (inner : CallsAlike layout signatures blamed (layout.rank number) (calls ns n) (calls ws n))
      (own_loops : Each (LoopFits blamed rest.bounds wide_bounds) (items_loops layout.variables body)) where
    abbrev f : Function
    f = at_entry layout signatures number first v.variables

    -- what functions of a greater rank have of their own
    abbrev kept : ℕ → Type 0
    kept o = (is_own (home layout o) ≡ true) × (layout.rank number < layout.rank (layout.owner o))

    run_is : IsRun layout signatures blamed kept f (calls ns n) (calls ws n)
    run_is = record {
      placed = placed;
      owned = v.owned;
      falls = λ g callable. ltb-true (layout.rank g) (layout.rank number) callable;
      own = λ o k. k.0;
      above = λ o k. at_most (layout.rank number) (layout.rank (layout.owner o)) k.1;
      calls = inner;
    }

    abbrev count : ℕ
    count = length (signatures.parameters number)

    names_at : (st st1 : State) → Bound layout blamed first count st st1 → Names layout f.live st1.objects
    names_at st st1 b = record {
      by = λ o q row passed lives there begins.
          let parts = and_parts (nat_le first o) (nat_lt o (first + count)) lives in
          b.names o q row (leb-true first o parts.0) (ltb-true o (first + count) parts.1) passed there begins;
    }

    -- a parameter is the function's own
    outside : (o : ℕ) → layout.rank number < layout.rank (layout.owner o) → first ≤ o → o < first + count → ⊥
    outside o greater le lt =
        below_itself (layout.rank number)
        (subst (λ g. layout.rank number < layout.rank g) (v.owned o (ap (λ b. b && nat_lt o (first + count)) (le-leb first o le) ∙ lt-ltb o (first + count) lt)) greater)

    abbrev Left : State → Option ℕ → State → Type 0
    Left st result st1 = Untouched layout (layout.rank number) st.objects st1.objects

    abbrev nbody : Flow → State → Outcome (Option ℕ)
    nbody flow st1 = then_do (run_items ns (calls ns n) body (entered body st1)) (λ flow st2. Fine (given_back flow) st2)

    abbrev wbody : Flow → State → Outcome (Option ℕ)
    wbody flow st1 = then_do (run_items ws (calls ws n) body (entered body st1)) (λ flow st2. Fine (given_back flow) st2)

    body_alike : (st st1 : State) (flow : Flow) → Bound layout blamed first count (counted number st) st1 → Alike blamed (Left st) (nbody flow st1) (wbody flow st1)
    body_alike st st1 flow b =
        alike_then blamed (λ (flow : Flow) st2. Stays layout f.live kept st1 st2) (Left st) (run_items ns (calls ns n) body (entered body st1)) (run_items ws (calls ws n) body (entered body st1))
        (λ flow st2. Fine (given_back flow) st2) (λ flow st2. Fine (given_back flow) st2)
        (follows layout signatures (signatures.results number) rest wide_bounds blamed homes (calls ns n) (calls ws n) (c.Block body 0) f kept run_is v.fits (λ o k. inl k.1) own_loops st1 (names_at (counted number st) st1 b))
        (λ flow st2 s. record { same = refl; comes = record { by = λ o own greater. s.same o (own, greater) ∙ b.others o (λ le lt. outside o greater le lt) } })

    enters : (specifiers : List Specifier) (name name_at : ℕ) (params : List c.Param) (body_at function_at at : ℕ) (words : List ℕ) (st : State) → HandedTo layout (signatures.parameters number) words →
        Alike blamed (Left st) (enter ns (calls ns n) (Some (c.Defined specifiers name name_at params first body body_at function_at)) number words at st) (enter ws (calls ws n) (Some (c.Defined specifiers name name_at params first body body_at function_at)) number words at st)
    enters specifiers name name_at params body_at function_at at words st handed =
        alike_then blamed (λ (flow : Flow) st1. Bound layout blamed first count (counted number st) st1) (Left st) (bound first at words (counted number st)) (bound first at words (counted number st)) nbody wbody
        (record { same = refl; comes = binds layout blamed (signatures.parameters number) first 0 0 at v.parameters words handed (counted number st) }) (λ flow st1 b. body_alike st st1 flow b)

  -- a call of a served function
  call_alike : (n g at : ℕ) (words : List ℕ) (st : State) → CallsAlike layout signatures blamed (layout.rank g) (calls ns n) (calls ws n) → HandedTo layout (signatures.parameters g) words →
      Alike blamed (λ (result : Option ℕ) st1. Untouched layout (layout.rank g) st.objects st1.objects) (calls ns (suc n) g words at st) (calls ws (suc n) g words at st)
  call_alike n g at words st inner handed = of (slice_get rest.functions g) refl
    where
      of : (f : Option c.Function) → slice_get rest.functions g ≡ f → Alike blamed (λ (result : Option ℕ) st1. Untouched layout (layout.rank g) st.objects st1.objects) (enter ns (calls ns n) f g words at st) (enter ws (calls ws n) f g words at st)
      of None is = alike_undefined blamed (λ (result : Option ℕ) st1. Untouched layout (layout.rank g) st.objects st1.objects) 0 at
      of (Some (c.Defined specifiers name name_at params first body body_at function_at)) is =
          let served = serve.by g (c.Defined specifiers name name_at params first body body_at function_at) is in
          enters n g first body served.function served.serves inner (loops g (c.Defined specifiers name name_at params first body body_at function_at) is) specifiers name name_at params body_at function_at at words st handed

  -- calls that are nested so deep, where ranks are lower
  pub calls_alike : (n : ℕ) → CallsAlike layout signatures blamed n (calls ns n) (calls ws n)
  calls_alike zero = record { by = λ g at words st lt handed. absurd (none_below (layout.rank g) lt) }
  calls_alike (suc n) =
      let fewer = calls_alike n in
      record {
        by = λ g at words st lt handed.
            call_alike n g at words st (record { by = λ k place more st1 low given. fewer.by k place more st1 (below (layout.rank k) (layout.rank g) n low (one_less (layout.rank g) n lt)) given }) handed;
      }
