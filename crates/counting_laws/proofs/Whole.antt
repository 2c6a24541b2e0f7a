-- The run of a whole program under narrower and wider bounds.
use Rattle.std.proofs.Common.{◌≡◌, refl, sym, ap, ◌∙◌, subst, ℕ, zero, suc, ◌+◌, ◌<◌, ◌≤◌, true, false, List, [], ◌∷◌, ◌++◌, length, Option, Some, None, arith, All}
use Rattle.std.specs.List.{Contains}
use Rattle.std.specs.Prelude.{is_some, slice_get, slice_index_or}
use Rattle.std.proofs.lemmas.Bool.{false≢true}
use Rattle.std.proofs.lemmas.List.Elements.{All-contains, All-contains_itself, All-weaker}
use Rattle.std.proofs.lemmas.Option.{none-some, same_Some}
use Rattle.facts_definitions.specs.FlowFacts.{main_of}
use Rattle.facts_definitions.specs.Most.{bounds_at}
use Rattle.facts_definitions.specs.declared.facts.Bounds.{Bounds}
use Rattle.facts_definitions.specs.declared.facts.Facts.{Facts}
use Rattle.facts_definitions.specs.declared.facts.Restriction.{Restriction}
use Rattle.types_calls.specs.declared.ranks.Ranks.{Ranks}
use Rattle.meaning_semantics.specs.Runs.{calls, ended, finished, first_violated, initialised_all, main_called, meaning, ran, start}
use Rattle.meaning_semantics.specs.State.{State, Outcome, Fine, Stopped}
use Rattle.meaning_semantics.specs.Statements.{Source}
use Rattle.meaning_semantics.specs.Values.{Calls}
use Rattle.meaning_semantics.specs.declared.outcome.Stop.TheVariants as stops
use Rattle.meaning_semantics.specs.declared.source_run.SourceRun.{SourceRun}
use Rattle.meaning_semantics.specs.declared.source_run.SourceRun.TheVariants.{Done, Undefined, Broken}
use Rattle.meaning_semantics.specs.declared.source_run.Unkept.TheVariants as unkept
use Rattle.c_tree.specs.declared.expression.NameId.{NameId}
use Rattle.c_tree.specs.Tree.{TranslationUnit, Whole}
use Rattle.types_rules.specs.Typed.{fault_of, typed_of}
use Rattle.types_calls.specs.Calls.{CallsDefined}
use Rattle.types_seen.proofs.Calls.{calls_defined}
use Rattle.types_seen.specs.Units.{HasTree}
use Rattle.types_tree.specs.Tree.{Function, Program}
use Rattle.types_tree.specs.declared.variable.Variable.{Variable}
use Rattle.plan_served.proofs.Begins.{begins}
use Rattle.plan_served.specs.Places.{IsHome}
use Rattle.plan_runs.specs.Flows.{Rest}
use Rattle.plan_runs.specs.ExpressionFits.{Signatures}
use Rattle.plan_runs.specs.Meets.{Layout, Untouched, home}
use Rattle.plan_served.proofs.Statics.{laid}
use Rattle.plan_served.proofs.Trees.{is_layout}
use Rattle.plan_served.specs.Layouts.{layout_of, rest_of, signatures_of}
use Rattle.plan_definition.specs.Programs.{program_planned}
use Rattle.plan_served.proofs.Programs.{serves}
use Rattle.facts_loops.specs.CountingLoops.{function_loops, functions_loops, loops_of}
use Rattle.facts_loops.specs.declared.form.LoopForm.{LoopForm}
use Rattle.counting_laws.specs.Wider.{HasDerived, HasOwn, MayWiden, OnlyDerived, Widens}
use Rattle.counting_laws.proofs.Alike.{Alike, Comes, alike_then, alike_weaken}
use Rattle.counting_laws.proofs.Calls.{calls_alike}
use Rattle.counting_laws.proofs.Fors.{LoopBy}
use Rattle.plan_law.proofs.DerivedLists.{Each, each_first, each_of, each_second}
use Rattle.counting_laws.proofs.Quiet.{Anywhere, begun_alike}
use Rattle.counting_laws.proofs.Settings.{HandedTo}
use Rattle.counting_laws.proofs.Statements.{LoopFits}

each_function : (P : LoopForm → Type 0) (variables : List Variable) (fs : List Function) (g : ℕ) (f : Function) → Each P (functions_loops variables fs) → slice_get fs g ≡ Some f → Each P (function_loops variables f)
each_function P variables [] g f h e = absurd (none-some f e)
each_function P variables (x ∷ rest) zero f h e = subst (λ y. Each P (function_loops variables y)) (same_Some x f e) (each_first P (function_loops variables x) (functions_loops variables rest) h)
each_function P variables (x ∷ rest) (suc g) f h e = each_function P variables rest g f (each_second P (function_loops variables x) (functions_loops variables rest) h) e

itself : (n : ℕ) → n ≤ n
itself n = omega arith

one_more : (n : ℕ) → n < n + 1
one_more n = omega arith

-- calls are of defined functions
calls_of : (names : List (List ℕ)) (program : Program) → HasTree names program → CallsDefined program
calls_of names program tree = of tree.unit tree.passes tree.program_is
  where
    of : (unit : TranslationUnit ℕ) → fault_of names unit ≡ None → program ≡ typed_of names unit → CallsDefined program
    of (Whole items at) passes is = subst CallsDefined (sym is) (calls_defined names items at passes)

-- no calls
abbrev no_call : Calls
no_call g words at st = Stopped (stops.Undefined 0 at)

-- the place of a loop that a run breaks
abbrev broken_at : SourceRun → Option ℕ
broken_at (Broken (unkept.Loop at)) = Some at
broken_at (Broken (unkept.Restriction at)) = None
broken_at (Done output value counts) = None
broken_at (Undefined rule at) = None

module _ (blamed : ℕ → Type 0) (names : List NameId) (restrictions : List Restriction) where
  -- a run that is broken at a loop is broken at one that is to blame
  ended_broken : (o : Outcome (Option ℕ)) → Comes blamed Anywhere o → (at : ℕ) → broken_at (ended names restrictions o) ≡ Some at → blamed at
  ended_broken (Fine result st) h at e = absurd (of (first_violated names st.counts restrictions) e)
    where
      of : (violated : Option ℕ) → broken_at (finished violated result st) ≡ Some at → ⊥
      of None e = none-some at e
      of (Some place) e = none-some at e
  ended_broken (Stopped (stops.Undefined rule place)) h at e = absurd (none-some at e)
  ended_broken (Stopped (stops.Broken place)) h at e = subst blamed (same_Some place at e) h

module _ (names : List (List ℕ)) (program : Program) (narrow : Facts) (h : HasDerived names program narrow) (wide_bounds : List Bounds) (widens : All (λ (l : LoopForm). MayWiden l.derived (bounds_at narrow.bounds l.number) (bounds_at wide_bounds l.number)) (loops_of program)) where
  -- a loop is to blame unless derived loops alone stand at its place
  abbrev blamed : ℕ → Type 0
  blamed at = OnlyDerived program at → ⊥

  abbrev layout : Layout
  layout = layout_of program narrow

  abbrev signatures : Signatures
  signatures = signatures_of program

  abbrev rest : Rest
  rest = rest_of program narrow

  abbrev main : ℕ
  main = main_of program names

  abbrev rank : ℕ
  rank = slice_index_or narrow.ranks.of_functions main 0

  abbrev nsource : Source
  nsource = record { program = program; bounds = narrow.bounds }

  abbrev wsource : Source
  wsource = record { program = program; bounds = wide_bounds }

  homes : (o : ℕ) (v : Variable) → slice_get layout.variables o ≡ Some v → IsHome v.duration v.extent (home layout o)
  homes o v e = (laid program narrow o v e).lives

  -- each loop has its bounds, or is to blame
  loop_fits : (l : LoopForm) → Contains (loops_of program) l → LoopFits blamed narrow.bounds wide_bounds l
  loop_fits l c =
      of l.derived refl (All-contains (λ (k : LoopForm). HasOwn k.derived (bounds_at narrow.bounds k.number)) (loops_of program) l h.own c)
      (All-contains (λ (k : LoopForm). MayWiden k.derived (bounds_at narrow.bounds k.number) (bounds_at wide_bounds k.number)) (loops_of program) l widens c)
    where
      of : (d : Option Bounds) → l.derived ≡ d → HasOwn d (bounds_at narrow.bounds l.number) → MayWiden d (bounds_at narrow.bounds l.number) (bounds_at wide_bounds l.number) → LoopBy blamed d (bounds_at narrow.bounds l.number) (bounds_at wide_bounds l.number) l.at
      of None is own may = (may, λ only. false≢true (sym (ap is_some is) ∙ All-contains (λ (k : LoopForm). k.at ≡ l.at → is_some k.derived ≡ true) (loops_of program) l only c refl))
      of (Some bounds) is own may = (own, subst (λ (b : Bounds). (bounds_at wide_bounds l.number).min ≤ b.min) own may.0, subst (λ (b : Bounds). b.max ≤ (bounds_at wide_bounds l.number).max) own may.1)

  loops_fit : Each (LoopFits blamed narrow.bounds wide_bounds) (loops_of program)
  loops_fit = each_of (LoopFits blamed narrow.bounds wide_bounds) (loops_of program) (All-weaker (Contains (loops_of program)) (LoopFits blamed narrow.bounds wide_bounds) loop_fits (loops_of program) (All-contains_itself (loops_of program)))

  -- main does the same
  main_alike : (st : State) → Alike blamed Anywhere (main_called nsource main rank st) (main_called wsource main rank st)
  main_alike st =
      alike_weaken blamed (λ (result : Option ℕ) st1. Untouched layout (layout.rank main) st.objects st1.objects) Anywhere (main_called nsource main rank st) (main_called wsource main rank st)
      ((calls_alike layout (is_layout names program narrow h.tree) signatures rest wide_bounds blamed homes (program_planned program narrow main).functions (serves names program narrow main h.tree (calls_of names program h.tree) h.are_facts)
      (λ g f e. each_function (LoopFits blamed narrow.bounds wide_bounds) program.variables program.functions g f loops_fit e) (rank + 1)).by main 0 [] st (one_more rank)
      (subst (λ formals. HandedTo layout formals []) (sym (begins names program narrow h.tree h.are_facts).main_takes) tt))
      (λ result st1 u. tt)

  pub ran_alike : (st : State) → Alike blamed Anywhere (ran nsource main rank st) (ran wsource main rank st)
  ran_alike st =
      alike_then blamed Anywhere Anywhere (initialised_all nsource (calls nsource 0) program.items st) (initialised_all wsource (calls wsource 0) program.items st) (λ flow st1. main_called nsource main rank st1) (λ flow st1. main_called wsource main rank st1)
      (begun_alike blamed nsource wsource refl no_call (λ g words at st1. tt) program.items st) (λ flow st1 k. main_alike st1)

-- the same bounds are wider ones
may_same : (d : Option Bounds) (b : Bounds) → MayWiden d b b
may_same None b = refl
may_same (Some own) b = (itself b.min, itself b.max)

all_same : (program : Program) (bounds : List Bounds) → All (λ (l : LoopForm). MayWiden l.derived (bounds_at bounds l.number) (bounds_at bounds l.number)) (loops_of program)
all_same program bounds =
    All-weaker (Contains (loops_of program)) (λ (l : LoopForm). MayWiden l.derived (bounds_at bounds l.number) (bounds_at bounds l.number)) (λ l c. may_same l.derived (bounds_at bounds l.number)) (loops_of program) (All-contains_itself (loops_of program))

pub never_broken : (names : List (List ℕ)) (program : Program) (facts : Facts) → HasDerived names program facts → (input : List ℕ) (at : ℕ) → OnlyDerived program at → meaning program names facts input ≡ Broken (unkept.Loop at) → ⊥
never_broken names program facts h input at only e =
    ended_broken (λ place. OnlyDerived program place → ⊥) (facts.functions ++ facts.markers) facts.restrictions
    (ran (record { program = program; bounds = facts.bounds }) (main_of program names) (slice_index_or facts.ranks.of_functions (main_of program names) 0) (start program (length facts.markers) input))
    (ran_alike names program facts h facts.bounds (all_same program facts.bounds) (start program (length facts.markers) input)).comes at (ap broken_at e) only

pub same_meaning : (names : List (List ℕ)) (program : Program) (narrow wide : Facts) → HasDerived names program narrow → Widens program narrow wide → (input : List ℕ) → meaning program names wide input ≡ meaning program names narrow input
same_meaning names program narrow wide h w input =
    ap (λ (fs : List NameId). ended (fs ++ wide.markers) wide.restrictions (ran source main (slice_index_or wide.ranks.of_functions main 0) (start program (length wide.markers) input))) w.functions_are
    ∙ ap (λ (ms : List NameId). ended (narrow.functions ++ ms) wide.restrictions (ran source main (slice_index_or wide.ranks.of_functions main 0) (start program (length ms) input))) w.markers_are
    ∙ ap (λ rs. ended (narrow.functions ++ narrow.markers) rs (ran source main (slice_index_or wide.ranks.of_functions main 0) (start program (length narrow.markers) input))) w.restrictions_are
    ∙ ap (λ (ranks : Ranks). ended (narrow.functions ++ narrow.markers) narrow.restrictions (ran source main (slice_index_or ranks.of_functions main 0) (start program (length narrow.markers) input))) w.ranks_are
    ∙ ap (ended (narrow.functions ++ narrow.markers) narrow.restrictions) (ran_alike names program narrow h wide.bounds w.bounds (start program (length narrow.markers) input)).same
  where
    main : ℕ
    main = main_of program names

    source : Source
    source = record { program = program; bounds = wide.bounds }
