-- A `for` does the same under narrower and wider bounds, where they are wider at counting loops alone.
use Rattle.std.proofs.Common.{◌≡◌, ◌⊎◌, inl, inr, ⊎_elim, refl, sym, ap, ◌∙◌, subst, ℕ, ◌≤◌, Bool, true, false, List, Option, Some, None, arith}
use Rattle.std.specs.Prelude.{◌||◌, min, slice_get}
use Rattle.std.proofs.lemmas.Bool.{false≢true}
use Rattle.std.proofs.lemmas.Option.{none-some}
use Rattle.facts_definitions.specs.Most.{bounds_at}
use Rattle.facts_definitions.specs.Starts.{leaves}
use Rattle.facts_definitions.specs.declared.facts.Bounds.{Bounds}
use Rattle.meaning_semantics.specs.State.{State, Outcome, Fine, Stopped, then_do}
use Rattle.meaning_semantics.specs.Statements.{Loop, Source, behind, evaluated, looped, run, started, stepped, tested, turns}
use Rattle.meaning_semantics.specs.Values.{Calls}
use Rattle.meaning_semantics.specs.declared.outcome.Flow.{Flow}
use Rattle.meaning_semantics.specs.declared.outcome.Flow.TheVariants.{Onward, Break, Continue, Return}
use Rattle.c_tree.specs.declared.pragma.Pragma.{Pragma}
use Rattle.types_tree.specs.Tree.{Expr, For, ForStart, Statement}
use Rattle.types_tree.specs.declared.variable.Variable.{Variable}
use Rattle.plan_runs.specs.Serves.{source_with}
use Rattle.plan_served.specs.Places.{IsHome}
use Rattle.plan_runs.proofs.Leaving.{Within, within}
use Rattle.plan_runs.specs.StatementFits.{FitOption, FitStatement, start_declares, with_live}
use Rattle.plan_runs.specs.Flows.{Rest}
use Rattle.high_ir.specs.declared.object.Kind.{Kind}
use Rattle.plan_runs.specs.ExpressionFits.{Fit, Function, IsScalar, Signatures}
use Rattle.plan_runs.specs.Meets.{Layout, home, is_own}
use Rattle.plan_definition.specs.declared.home.Home.TheVariants.{Frame}
use Rattle.facts_loops.specs.Changes.{expr_changes, option_changes, start_changes, statement_changes}
use Rattle.facts_loops.specs.Counting.{counting, is_limit, is_up, least_turns, turns as turns_of}
use Rattle.facts_loops.specs.CountingLoops.{unless_written}
use Rattle.counting_laws.proofs.Alike.{Alike, Ends, alike_and, alike_fine, alike_then, alike_weaken}
use Rattle.counting_laws.proofs.Arithmetic.{ahead}
use Rattle.counting_laws.proofs.Counted.{Comparison, Holds, Sets, Steps, compared_lives, compared_value, first_fits, start_sets, steps_positive, steps_so, tested_word, tests_so}
use Rattle.counting_laws.proofs.Declaring.{dropped_keeps, start_keeps, with_bounds}
use Rattle.counting_laws.proofs.Entering.{left_scope, scope_run, start_owned}
use Rattle.counting_laws.proofs.Expressions.{runs}
use Rattle.plan_law.proofs.DerivedForms.{Parts, bounds_are, counter, parts}
use Rattle.counting_laws.proofs.Homes.{counter_home}
use Rattle.counting_laws.proofs.Looping.{behind_keeps, turns_keep}
use Rattle.counting_laws.proofs.Objects.{Names, Stays, stays_then}
use Rattle.counting_laws.proofs.Settings.{IsRun, Keeps, Spares, keeps_then, resumed, spares_first, spares_second}
use Rattle.counting_laws.proofs.Steps.{keeps_here}
use Rattle.counting_laws.proofs.Turning.{Round, turns_alike}

-- the bounds of a loop: those that are derived for it and wider ones, or others, which are the same, and then it is to blame
abbrev pub LoopBy : (blamed : ℕ → Type 0) → (derived : Option Bounds) (narrow wide : Bounds) (at : ℕ) → Type 0
LoopBy blamed None narrow wide at = (wide ≡ narrow) × blamed at
LoopBy blamed (Some bounds) narrow wide at = (narrow ≡ bounds) × (wide.min ≤ bounds.min) × (bounds.max ≤ wide.max)

-- a body that may be left, where its statements say so
abbrev pub MayLeave : (left : Bool) → Flow → State → Type 0
MayLeave left Onward st = Unit {0}
MayLeave left Continue st = Unit {0}
MayLeave left Break st = left ≡ true
MayLeave left (Return word) st = left ≡ true

may_leave : (left : Bool) (o : Outcome Flow) → (left ≡ false → Within true o) → Ends (MayLeave left) o
may_leave left (Stopped stop) h = tt
may_leave left (Fine Onward st) h = tt
may_leave left (Fine Continue st) h = tt
may_leave true (Fine Break st) h = refl
may_leave false (Fine Break st) h = absurd (h refl)
may_leave true (Fine (Return word) st) h = refl
may_leave false (Fine (Return word) st) h = absurd (h refl)

least_below : (left : Bool) (n : ℕ) → least_turns left n ≤ n
least_below true n = omega arith
least_below false n = omega arith

least_once : (left : Bool) (n : ℕ) → left ≡ true → least_turns left n ≤ 1
least_once true n h = omega arith
least_once false n h = absurd (false≢true h)

itself : (n : ℕ) → n ≤ n
itself n = omega arith

unwritten_is : (bound : Option Pragma) (counted : Option Bounds) (bounds : Bounds) → unless_written bound counted ≡ Some bounds → counted ≡ Some bounds
unwritten_is None counted bounds e = e
unwritten_is (Some pragma) counted bounds e = absurd (none-some bounds e)

module _ (layout : Layout) (signatures : Signatures) (result : Kind) (rest : Rest) (wide_bounds : List Bounds) (blamed : ℕ → Type 0) (homes : (o : ℕ) (v : Variable) → slice_get layout.variables o ≡ Some v → IsHome v.duration v.extent (home layout o)) (narrow wide : Calls) where
  abbrev pub ns : Source
  ns = source_with layout rest

  abbrev pub ws : Source
  ws = source_with layout (with_bounds rest wide_bounds)

  -- a body, whatever else is kept
  abbrev pub BodyFollows : Function → Statement → Type 1
  BodyFollows f body = (kept : ℕ → Type 0) → IsRun layout signatures blamed kept f narrow wide → Spares layout kept f (λ o. statement_changes o body) → (st : State) → Names layout f.live st.objects →
      Keeps layout f.live kept blamed st (run ns narrow body st) (run ws wide body st)

  module _ (f : Function) (kept : ℕ → Type 0) (ok : IsRun layout signatures blamed kept f narrow wide) where
    abbrev Named : State → Type 0
    Named st = Names layout f.live st.objects

    abbrev Both : {A : Type 0} → State → Outcome A → Outcome A → Type 0
    Both st a b = Keeps layout f.live kept blamed st a b

    pub valued_keeps : (e : Expr) → Fit layout signatures f e → Spares layout kept f (λ o. expr_changes o e) → (st : State) → Named st → Both st (evaluated ns narrow e true st) (evaluated ws wide e true st)
    valued_keeps e fit clear st n = (runs layout signatures blamed kept f narrow wide ok e fit clear).by true st n

    tested_keeps : (test : Option Expr) → FitOption layout signatures result rest.bounds f test → Spares layout kept f (λ o. option_changes o test) → (st : State) → Named st → Both st (tested ns narrow test st) (tested ws wide test st)
    tested_keeps None fit clear st n = keeps_here layout f.live kept blamed 1 st n
    tested_keeps (Some e) fit clear st n = valued_keeps e fit clear st n

    stepped_keeps : (step : Option Expr) → FitOption layout signatures result rest.bounds f step → Spares layout kept f (λ o. option_changes o step) → (st : State) → Named st → Both st (stepped ns narrow step st) (stepped ws wide step st)
    stepped_keeps None fit clear st n = keeps_here layout f.live kept blamed Onward st n
    stepped_keeps (Some e) fit clear st n = dropped_keeps layout signatures result rest wide_bounds blamed kept f narrow wide ok e fit clear st n

    module _ (test step : Option Expr) (body : Statement) (at : ℕ) (fit_test : FitOption layout signatures result rest.bounds f test) (fit_step : FitOption layout signatures result rest.bounds f step)
        (clear_test : Spares layout kept f (λ o. option_changes o test)) (clear_step : Spares layout kept f (λ o. option_changes o step)) (clear_body : Spares layout kept f (λ o. statement_changes o body)) (follows : BodyFollows f body) where
      abbrev round : State → Outcome Flow
      round st = then_do (run ns narrow body st) (behind (stepped ns narrow step))

      abbrev other_round : State → Outcome Flow
      other_round st = then_do (run ws wide body st) (behind (stepped ws wide step))

      abbrev nl : Loop
      nl = record { at = at; test = tested ns narrow test; round = round }

      abbrev wl : Loop
      wl = record { at = at; test = tested ws wide test; round = other_round }

      -- a loop that is to blame
      plain_loop : blamed at → (left owed : ℕ) (st : State) → Named st → Both st (turns nl left owed st) (turns wl left owed st)
      plain_loop to_blame left owed st n =
          turns_keep layout f.live kept blamed at to_blame (tested ns narrow test) (tested ws wide test) round other_round (λ st1 n1. tested_keeps test fit_test clear_test st1 n1)
          (λ st1 n1. keeps_then layout f.live kept blamed st1 (run ns narrow body st1) (run ws wide body st1) (behind (stepped ns narrow step)) (behind (stepped ws wide step)) (follows kept ok clear_body st1 n1)
          (λ flow st2 n2. behind_keeps layout f.live kept blamed (stepped ns narrow step) (stepped ws wide step) (λ st3 n3. stepped_keeps step fit_step clear_step st3 n3) flow st2 n2))
          left owed st n

      -- a loop that counts
      module _ (start : ForStart) (bounds : Bounds) (p : Parts layout.variables start test step body bounds) where
        abbrev left : Bool
        left = leaves true body

        abbrev up : Bool
        up = is_up p.limit.operator

        -- its object too is kept while its body runs
        abbrev inner : ℕ → Type 0
        inner o = kept o ⊎ (o ≡ p.object)

        abbrev test_is : (e : Expr) × (test ≡ Some e) × Comparison p.object p.limit e
        test_is = tests_so test p.object p.limit p.limit_is

        object_home : (x : ℕ) × (home layout p.object ≡ Frame x)
        object_home = counter_home (slice_get layout.variables p.object) (home layout p.object) (counter layout.variables start body p.object p.counter_is).counts (λ v e. homes p.object v e)

        object_lives : f.live p.object ≡ true
        object_lives =
            subst (IsScalar layout f p.object) object_home.1
            (compared_lives layout signatures f test_is.0 p.object p.limit test_is.2 (subst (FitOption layout signatures result rest.bounds f) test_is.1 fit_test))

        object_owned : layout.owner p.object ≡ f.number
        object_owned = ok.owned p.object object_lives

        inner_ok : IsRun layout signatures blamed inner f narrow wide
        inner_ok = record {
          placed = ok.placed;
          owned = ok.owned;
          falls = ok.falls;
          own = λ o k. ⊎_elim (λ (old : kept o). ok.own o old) (λ (same : o ≡ p.object). ap (λ q. is_own (home layout q)) same ∙ ap is_own object_home.1) k;
          above = λ o k. ⊎_elim (λ (old : kept o). ok.above o old)
              (λ (same : o ≡ p.object). subst (λ g. layout.rank f.number ≤ layout.rank g) (sym (ap layout.owner same ∙ object_owned)) (itself (layout.rank f.number))) k;
          calls = ok.calls;
        }

        inner_clear : Spares layout inner f (λ o. statement_changes o body)
        inner_clear o k = ⊎_elim (λ (old : kept o). clear_body o old)
            (λ (same : o ≡ p.object). inr (ap (λ q. statement_changes q body) same ∙ (counter layout.variables start body p.object p.counter_is).unchanged)) k

        tests : (v : ℕ) (st : State) → Holds p.object v st → tested ns narrow test st ≡ Fine (tested_word p.limit v) st
        tests v st h = ap (λ t. tested ns narrow t st) test_is.1 ∙ compared_value layout.variables narrow test_is.0 p.object p.limit test_is.2 v true st h

        other_tests : (v : ℕ) (st : State) → Holds p.object v st → tested ws wide test st ≡ Fine (tested_word p.limit v) st
        other_tests v st h = ap (λ t. tested ws wide t st) test_is.1 ∙ compared_value layout.variables wide test_is.0 p.object p.limit test_is.2 v true st h

        abbrev Once : (v : ℕ) → State → Flow → State → Type 0
        Once v st flow st1 = Round layout f.live kept blamed p.object p.limit p.by left at v st flow st1

        -- what the body came to
        abbrev Came : State → Flow → State → Type 0
        Came st flow st1 = Stays layout f.live inner st st1 × MayLeave left flow st1

        outer : (st st1 : State) → Stays layout f.live inner st st1 → Stays layout f.live kept st st1
        outer st st1 s = record { names = s.names; same = λ o k. s.same o (inl k) }

        still_holds : (v : ℕ) (st st1 : State) → Stays layout f.live inner st st1 → Holds p.object v st → Holds p.object v st1
        still_holds v st st1 s h = (h.0, s.same p.object (inr refl) ∙ h.1, h.2)

        once_of : (v : ℕ) (st st1 : State) → Stays layout f.live kept st st1 → (flow : Flow) (st2 : State) → Stays layout f.live kept st1 st2 × Steps p.object up p.by v flow st2 → Once v st flow st2
        once_of v st st1 s Onward st2 h = (stays_then layout f.live kept st st1 st2 s h.0, h.1)
        once_of v st st1 s Break st2 h = absurd h.1
        once_of v st st1 s Continue st2 h = absurd h.1
        once_of v st st1 s (Return word) st2 h = absurd h.1

        steps_on : (v : ℕ) (st st1 : State) → Holds p.object v st → Stays layout f.live inner st st1 → Alike blamed (Once v st) (stepped ns narrow step st1) (stepped ws wide step st1)
        steps_on v st st1 h s =
            alike_weaken blamed (λ flow st2. Stays layout f.live kept st1 st2 × Steps p.object up p.by v flow st2) (Once v st) (stepped ns narrow step st1) (stepped ws wide step st1)
            (alike_and blamed (λ flow st2. Stays layout f.live kept st1 st2) (Steps p.object up p.by v) (stepped ns narrow step st1) (stepped ws wide step st1) (stepped_keeps step fit_step clear_step st1 s.names)
            (steps_so ns narrow step p.object up p.by p.step_is v st1 (still_holds v st st1 s h)))
            (λ flow st2 k. once_of v st st1 (outer st st1 s) flow st2 k)

        goes_behind : (v : ℕ) (st : State) → Holds p.object v st → (flow : Flow) (st1 : State) → Came st flow st1 → Alike blamed (Once v st) (behind (stepped ns narrow step) flow st1) (behind (stepped ws wide step) flow st1)
        goes_behind v st h Onward st1 c = steps_on v st st1 h c.0
        goes_behind v st h Continue st1 c = steps_on v st st1 h c.0
        goes_behind v st h Break st1 c = alike_fine blamed (Once v st) Break st1 (outer st st1 c.0, c.1)
        goes_behind v st h (Return word) st1 c = alike_fine blamed (Once v st) (Return word) st1 (outer st st1 c.0, c.1)

        rounds : (v : ℕ) (st : State) → Named st → Holds p.object v st → Alike blamed (Once v st) (round st) (other_round st)
        rounds v st n h =
            alike_then blamed (Came st) (Once v st) (run ns narrow body st) (run ws wide body st) (behind (stepped ns narrow step)) (behind (stepped ws wide step))
            (alike_and blamed (λ flow st1. Stays layout f.live inner st st1) (MayLeave left) (run ns narrow body st) (run ws wide body st) (follows inner inner_ok inner_clear st n)
            (may_leave left (run ns narrow body st) (λ never. within ns narrow true body never st)))
            (λ flow st1 c. goes_behind v st h flow st1 c)

        counted_loop : (other : Bounds) → other.min ≤ bounds.min → bounds.max ≤ other.max → (st : State) → Named st → Holds p.object p.first st → Both st (looped bounds nl st) (looped other wl st)
        counted_loop other less more st n h =
            let count = turns_of p.first p.limit p.by in
            let b = bounds_are left count bounds p.bounds_are in
            let one : is_limit p.limit.operator ≡ true = ap is_limit test_is.2.operator_is ∙ test_is.2.is_one in
            let a = ahead p.limit p.by one (steps_positive step p.object up p.by p.step_is) count p.first (first_fits start p.first p.first_is) refl in
            subst (λ m. Both st (turns nl m bounds.min st) (looped other wl st)) (sym b.1)
            (turns_alike layout f.live kept blamed p.object p.limit p.by left at (tested ns narrow test) (tested ws wide test) round other_round tests other_tests rounds count other.max bounds.min other.min p.first
            (subst (λ m. m ≤ other.max) b.1 more) (subst (λ m. m ≤ count) (sym b.0) (least_below left count)) less (λ l. subst (λ m. m ≤ 1) (sym b.0) (least_once left count l)) a st n h)

  -- a `for`, by whether bounds are derived for it
  module _ (f : Function) (kept : ℕ → Type 0) (ok : IsRun layout signatures blamed kept f narrow wide) (number : ℕ) (bound : Option Pragma) (start : ForStart) (test step : Option Expr) (body : Statement) (at : ℕ)
      (fit : FitStatement layout signatures result rest.bounds f (For number bound start test step body at)) (clear : Spares layout kept f (λ o. statement_changes o (For number bound start test step body at))) where
    abbrev pub f1 : Function
    f1 = with_live f (start_declares start)

    inner_run : IsRun layout signatures blamed kept f1 narrow wide
    inner_run = scope_run layout signatures blamed kept f narrow wide ok (start_declares start) (start_owned layout signatures blamed kept f narrow wide ok result rest.bounds start fit.0)

    clear_start : Spares layout kept f (λ o. start_changes o start)
    clear_start = spares_first layout kept f (λ o. start_changes o start) (λ o. option_changes o test || (option_changes o step || statement_changes o body)) clear

    clear_rest : Spares layout kept f (λ o. option_changes o test || (option_changes o step || statement_changes o body))
    clear_rest = spares_second layout kept f (λ o. start_changes o start) (λ o. option_changes o test || (option_changes o step || statement_changes o body)) clear

    clear_test : Spares layout kept f1 (λ o. option_changes o test)
    clear_test = spares_first layout kept f (λ o. option_changes o test) (λ o. option_changes o step || statement_changes o body) clear_rest

    clear_more : Spares layout kept f (λ o. option_changes o step || statement_changes o body)
    clear_more = spares_second layout kept f (λ o. option_changes o test) (λ o. option_changes o step || statement_changes o body) clear_rest

    clear_step : Spares layout kept f1 (λ o. option_changes o step)
    clear_step = spares_first layout kept f (λ o. option_changes o step) (λ o. statement_changes o body) clear_more

    clear_body : Spares layout kept f1 (λ o. statement_changes o body)
    clear_body = spares_second layout kept f (λ o. option_changes o step) (λ o. statement_changes o body) clear_more

    abbrev nloop : Loop
    nloop = record { at = at; test = tested ns narrow test; round = λ st. then_do (run ns narrow body st) (behind (stepped ns narrow step)) }

    abbrev wloop : Loop
    wloop = record { at = at; test = tested ws wide test; round = λ st. then_do (run ws wide body st) (behind (stepped ws wide step)) }

    abbrev At : State → Flow → State → Type 0
    At st flow st1 = Stays layout f1.live kept st st1

    starts : (st : State) → Names layout f.live st.objects → Alike blamed (At st) (started ns narrow start st) (started ws wide start st)
    starts st n = start_keeps layout signatures result rest wide_bounds blamed kept f narrow wide ok start inner_run fit.0 clear_start st n

    pub for_follows : BodyFollows f1 body → LoopBy blamed (unless_written bound (counting layout.variables start test step body)) (bounds_at rest.bounds number) (bounds_at wide_bounds number) at → (st : State) → Names layout f.live st.objects →
        Keeps layout f.live kept blamed st (run ns narrow (For number bound start test step body at) st) (run ws wide (For number bound start test step body at) st)
    for_follows follows loop_ok st n =
        left_scope layout signatures blamed kept f narrow wide ok (start_declares start) st (run ns narrow (For number bound start test step body at) st) (run ws wide (For number bound start test step body at) st)
        (of (unless_written bound (counting layout.variables start test step body)) refl loop_ok)
      where
        of : (derived : Option Bounds) → unless_written bound (counting layout.variables start test step body) ≡ derived → LoopBy blamed derived (bounds_at rest.bounds number) (bounds_at wide_bounds number) at →
            Alike blamed (At st) (then_do (started ns narrow start st) (λ flow st1. looped (bounds_at rest.bounds number) nloop st1)) (then_do (started ws wide start st) (λ flow st1. looped (bounds_at wide_bounds number) wloop st1))
        of None is h =
            alike_then blamed (At st) (At st) (started ns narrow start st) (started ws wide start st) (λ flow st1. looped (bounds_at rest.bounds number) nloop st1) (λ flow st1. looped (bounds_at wide_bounds number) wloop st1) (starts st n)
            (λ flow st1 s.
            resumed layout f1.live kept blamed st st1 (looped (bounds_at rest.bounds number) nloop st1) (looped (bounds_at wide_bounds number) wloop st1) s
            (subst (λ b. Keeps layout f1.live kept blamed st1 (looped (bounds_at rest.bounds number) nloop st1) (looped b wloop st1)) (sym h.0)
            (plain_loop f1 kept inner_run test step body at fit.1 fit.2 clear_test clear_step clear_body follows h.1 (bounds_at rest.bounds number).max (bounds_at rest.bounds number).min st1 s.names)))
        of (Some bounds) is h =
            let p = parts layout.variables start test step body bounds (unwritten_is bound (counting layout.variables start test step body) bounds is) in
            let c = counter layout.variables start body p.object p.counter_is in
            alike_then blamed (λ flow st1. Stays layout f1.live kept st st1 × Sets p.object p.first flow st1) (At st) (started ns narrow start st) (started ws wide start st)
            (λ flow st1. looped (bounds_at rest.bounds number) nloop st1) (λ flow st1. looped (bounds_at wide_bounds number) wloop st1)
            (alike_and blamed (At st) (Sets p.object p.first) (started ns narrow start st) (started ws wide start st) (starts st n) (start_sets ns narrow start p.object p.first c.set_is p.first_is st))
            (λ flow st1 s.
            resumed layout f1.live kept blamed st st1 (looped (bounds_at rest.bounds number) nloop st1) (looped (bounds_at wide_bounds number) wloop st1) s.0
            (subst (λ b. Keeps layout f1.live kept blamed st1 (looped b nloop st1) (looped (bounds_at wide_bounds number) wloop st1)) (sym h.0)
            (counted_loop f1 kept inner_run test step body at fit.1 fit.2 clear_test clear_step clear_body follows start bounds p (bounds_at wide_bounds number) h.1 h.2 st1 s.0.names s.1)))
