-- Runs of programs whose names are those of what is there, and whose calls fall in rank, stop by a rule where they stop.
use Rattle.std.proofs.Common.{◌≡◌, refl, ap, ◌∙◌, sym, subst, ℕ, zero, suc, ◌+◌, ◌<◌, Bool, true, false, List, [], ◌∷◌, ◌++◌, length, map, replicate, Option, Some, None, arith}
use Rattle.std.specs.Prelude.{slice_get, slice_index_or}
use Rattle.std.proofs.lemmas.Bool.{false≢true}
use Rattle.std.proofs.lemmas.List.{length-replicate}
use Rattle.std.proofs.lemmas.Option.{none-some, same_Some}
use Rattle.c_tree.specs.declared.expression.NameId.{NameId}
use Rattle.facts_definitions.specs.FlowFacts.{main_of}
use Rattle.facts_definitions.specs.declared.facts.Bounds.{Bounds}
use Rattle.facts_definitions.specs.declared.facts.Facts.{Facts}
use Rattle.facts_definitions.specs.declared.facts.Restriction.{Restriction}
use Rattle.types_calls.specs.Calls.{items_calls, objects_calls}
use Rattle.types_calls.specs.Chains.{Among}
use Rattle.types_tree.specs.Tree.{Declaration, Objects, Prototype, External, Restriction as Restricting, Declaring, Defining, Function, Defined, Program}
use Rattle.types_tree.specs.declared.variable.Duration.{Duration}
use Rattle.types_tree.specs.declared.variable.Duration.TheVariants.{Static, Automatic}
use Rattle.types_tree.specs.declared.variable.Extent.{Extent}
use Rattle.types_tree.specs.declared.variable.Extent.TheVariants.{Scalar, Array, Parameter}
use Rattle.types_tree.specs.declared.variable.Variable.{Variable}
use Rattle.meaning_semantics.specs.Runs.{calls, elements_of, ended, enter, finished, first_of, first_violated, given_back, initialised_all, main_called, meaning, ran, size_of, start}
use Rattle.meaning_semantics.specs.State.{State, Outcome, Fine, Stopped, bound, counted, then_do}
use Rattle.meaning_semantics.specs.Statements.{Source, declared, entered, run_items}
use Rattle.meaning_semantics.specs.declared.outcome.Stop.TheVariants.{Undefined, Broken}
use Rattle.meaning_laws.specs.Scoped.{FitDeclaration, FitFunction, arrays_of, takes}
use Rattle.meaning_laws.specs.Told.{IsTold}
use Rattle.meaning_laws.proofs.Storing.{Accepts, Any, AreCells, AreWords, IsHeld, IsLaidOut, Safe, bound_safe, counted_laid, then_safe}
use Rattle.meaning_laws.proofs.Values.{CallSafe}
use Rattle.meaning_laws.proofs.Runs.{entered_safe, items_safe, objects_safe}

abbrev pub body_calls : Function → List ℕ
body_calls (Defined specifiers name name_at params first body body_at at) = items_calls body

abbrev pub CallsNothing : Declaration → Type 0
CallsNothing (Objects specifiers objects at) = (g : ℕ) → Among g (objects_calls objects) → ⊥
CallsNothing (Prototype specifiers name params at) = Unit {0}

-- what stands at file level calls nothing
abbrev pub FitExternals : List Variable → List Function → List External → Type 0
FitExternals variables functions [] = Unit {0}
FitExternals variables functions (Restricting pragma ∷ rest) = FitExternals variables functions rest
FitExternals variables functions (Declaring declaration ∷ rest) =
    FitDeclaration variables functions declaration × CallsNothing declaration × FitExternals variables functions rest
FitExternals variables functions (Defining function ∷ rest) = FitExternals variables functions rest

-- a program whose names are those of what is there, and whose calls fall in rank
pub record IsScoped (program : Program) (ranks : List ℕ) (main : ℕ) : Type 0 where
  pub functions : (g : ℕ) (f : Function) → slice_get program.functions g ≡ Some f → FitFunction program.variables program.functions f
  pub there : (g : ℕ) (f : Function) (h : ℕ) → slice_get program.functions g ≡ Some f → Among h (body_calls f) → (k : Function) × (slice_get program.functions h ≡ Some k)
  pub falls : (g : ℕ) (f : Function) (h : ℕ) → slice_get program.functions g ≡ Some f → Among h (body_calls f) → slice_index_or ranks h 0 < slice_index_or ranks g 0
  pub externals : FitExternals program.variables program.functions program.items
  pub passed : (o : ℕ) (v : Variable) → slice_get program.variables o ≡ Some v → v.extent ≡ Parameter → v.duration ≡ Automatic
  pub main_is : Function
  pub main_there : slice_get program.functions main ≡ Some main_is
  pub main_takes : takes (Some main_is) ≡ []

start_extent : (v : Variable) (d : Duration) (e : Extent) → v.duration ≡ d → v.extent ≡ e → (v.extent ≡ Parameter → v.duration ≡ Automatic) → (variables : List Variable) → AreCells variables e (replicate (size_of e) (first_of d))
start_extent v d e duration extent passed variables = record { size_is = length-replicate (size_of e) (first_of d); accepted = λ i word is. accepted d e duration extent i word is }
  where
    no_word : (n i word : ℕ) → slice_get (replicate n None) i ≡ Some (Some word) → ⊥
    no_word zero i word e = none-some _ e
    no_word (suc n) zero word e = none-some word (same_Some None (Some word) e)
    no_word (suc n) (suc i) word e = no_word n i word e

    not_static : Duration → Bool
    not_static Static = false
    not_static Automatic = true

    accepted : (d : Duration) (e : Extent) → v.duration ≡ d → v.extent ≡ e → (i word : ℕ) → slice_get (replicate (size_of e) (first_of d)) i ≡ Some (Some word) → Accepts variables e word
    accepted d Scalar duration extent i word is = tt
    accepted d (Array size) duration extent i word is = tt
    accepted Automatic Parameter duration extent i word is = absurd (no_word 1 i word is)
    accepted Static Parameter duration extent i word is = absurd (false≢true (ap not_static (sym duration ∙ passed extent)))

at_map : (vs : List Variable) (o : ℕ) (v : Variable) → slice_get vs o ≡ Some v → slice_get (map elements_of vs) o ≡ Some (elements_of v)
at_map [] o v e = absurd (none-some v e)
at_map (w ∷ vs) zero v e = ap (λ x. Some (elements_of x)) (same_Some w v e)
at_map (w ∷ vs) (suc o) v e = at_map vs o v e

module _ (program : Program) (ranks : List ℕ) (main : ℕ) (scoped : IsScoped program ranks main) (bounds : List Bounds) where
  abbrev source : Source
  source = record { program = program; bounds = bounds }

  abbrev rank : ℕ → ℕ
  rank g = slice_index_or ranks g 0

  abbrev IsSafe : {A : Type 0} → Outcome A → Type 0
  IsSafe o = Safe program.variables Any o

  -- calls that nest no deeper than ranks
  calls_safe : (depth g : ℕ) (f : Function) → slice_get program.functions g ≡ Some f → rank g < depth → CallSafe program.variables program.functions (calls source depth) g
  calls_safe zero g f there lt words at st l given = absurd (omega (arith, lt))
  calls_safe (suc depth) g f there lt words at st l given =
      subst (λ o. IsSafe (enter source (calls source depth) o g words at st)) (sym there)
      (of f (scoped.functions g f there)
      (λ h m. let k = scoped.there g f h there m in let less = scoped.falls g f h there m in calls_safe depth h k.0 k.1 (omega (arith, lt, less)))
      (subst (λ o. AreWords program.variables words (takes o)) there given))
    where
      of : (k : Function) → FitFunction program.variables program.functions k → ((h : ℕ) → Among h (body_calls k) → CallSafe program.variables program.functions (calls source depth) h) → AreWords program.variables words (takes (Some k)) → IsSafe (enter source (calls source depth) (Some k) g words at st)
      of (Defined specifiers name name_at params first body body_at function_at) fit inner given =
          then_safe program.variables Any Any (bound first at words (counted g st)) (λ flow st1. then_do (run_items source (calls source depth) body (entered body st1)) (λ flow st2. Fine (given_back flow) st2))
          (bound_safe program.variables first at words (arrays_of params) (counted g st) (counted_laid program.variables g st l) given fit.0)
          (λ flow st1 l1 any. then_safe program.variables Any Any (run_items source (calls source depth) body (entered body st1)) (λ flow st2. Fine (given_back flow) st2)
          (items_safe source (calls source depth) body fit.1 inner (entered body st1) (entered_safe source (calls source depth) body st1 l1))
          (λ flow st2 l2 any. (l2, tt)))

  file_safe : (items : List External) → FitExternals program.variables program.functions items → (st : State) → IsLaidOut program.variables st → IsSafe (initialised_all source (calls source 0) items st)
  file_safe [] fit st l = (l, tt)
  file_safe (Restricting pragma ∷ rest) fit st l = file_safe rest fit st l
  file_safe (Declaring declaration ∷ rest) fit st l =
      then_safe program.variables Any Any (declared source (calls source 0) declaration st) (λ flow st1. initialised_all source (calls source 0) rest st1)
      (of declaration fit.0 fit.1)
      (λ flow st1 l1 any. file_safe rest fit.2 st1 l1)
    where
      of : (declaration : Declaration) → FitDeclaration program.variables program.functions declaration → CallsNothing declaration → IsSafe (declared source (calls source 0) declaration st)
      of (Objects specifiers objects at) fit none = objects_safe source (calls source 0) objects fit (λ g m. absurd (none g m)) st l
      of (Prototype specifiers name params at) fit none = (l, tt)
  file_safe (Defining function ∷ rest) fit st l = file_safe rest fit st l

  start_laid : (markers : ℕ) (input : List ℕ) → IsLaidOut program.variables (start program markers input)
  start_laid markers input = record {
    by = λ o v e. subst (IsHeld program.variables v.extent) (sym (at_map program.variables o v e)) (start_extent v v.duration v.extent refl refl (scoped.passed o v e) program.variables);
  }

  ran_safe : (st : State) → IsLaidOut program.variables st → IsSafe (ran source main (rank main) st)
  ran_safe st l =
      then_safe program.variables Any Any (initialised_all source (calls source 0) program.items st) (λ flow st1. main_called source main (rank main) st1) (file_safe program.items scoped.externals st l)
      (λ flow st1 l1 any. calls_safe (rank main + 1) main scoped.main_is scoped.main_there (omega arith) [] 0 st1 l1
      (subst (AreWords program.variables []) (sym (ap takes scoped.main_there ∙ scoped.main_takes)) tt))

  finished_told : (o : Option ℕ) (result : Option ℕ) (st : State) → IsTold (finished o result st)
  finished_told None result st = tt
  finished_told (Some at) result st = tt

  ended_told : (names : List NameId) (restrictions : List Restriction) (o : Outcome (Option ℕ)) → IsSafe o → IsTold (ended names restrictions o)
  ended_told names restrictions (Fine result st) safe = finished_told (first_violated names st.counts restrictions) result st
  ended_told names restrictions (Stopped (Undefined rule at)) safe = safe
  ended_told names restrictions (Stopped (Broken at)) safe = tt

-- what a run of such a program comes to
pub told : (program : Program) (names : List (List ℕ)) (facts : Facts) (input : List ℕ) → IsScoped program facts.ranks.of_functions (main_of program names) → IsTold (meaning program names facts input)
told program names facts input scoped =
    let ranks = facts.ranks.of_functions in
    let main = main_of program names in
    ended_told program ranks main scoped facts.bounds (facts.functions ++ facts.markers) facts.restrictions (ran (record { program = program; bounds = facts.bounds }) main (slice_index_or ranks main 0) (start program (length facts.markers) input))
    (ran_safe program ranks main scoped facts.bounds (start program (length facts.markers) input) (start_laid program ranks main scoped facts.bounds (length facts.markers) input))
