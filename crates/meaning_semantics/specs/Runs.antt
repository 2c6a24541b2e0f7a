-- What a source does on an input.
use Rattle.std.specs.Prelude.{ℕ, zero, suc, ◌+◌, ◌*◌, ◌==◌, nat_le, Bool, if◌then◌else◌, List, [], ◌∷◌, ◌++◌, length, map, replicate, Option, Some, None, slice_get, slice_index_or}
use Rattle.wcc_base.specs.Words.{signed_word}
use Rattle.wcc_base.specs.declared.compare.Compare.{Compare}
use Rattle.wcc_base.specs.declared.compare.Compare.TheVariants.{AtMost, AtLeast, Equal}
use Rattle.c_tree.specs.declared.expression.NameId.{NameId}
use Rattle.facts_definitions.specs.FlowFacts.{index_of, main_of}
use Rattle.facts_definitions.specs.declared.facts.Facts.{Facts}
use Rattle.facts_definitions.specs.declared.facts.Restriction.{Restriction}
use Rattle.facts_definitions.specs.declared.facts.Term.{Term}
use Rattle.types_tree.specs.Tree.{Function, Defined, External, Restriction as Restricting, Declaring, Defining, Program}
use Rattle.types_tree.specs.declared.variable.Duration.{Duration}
use Rattle.types_tree.specs.declared.variable.Duration.TheVariants.{Static, Automatic}
use Rattle.types_tree.specs.declared.variable.Extent.{Extent}
use Rattle.types_tree.specs.declared.variable.Extent.TheVariants.{Scalar, Array, Parameter}
use Rattle.types_tree.specs.declared.variable.Variable.{Variable}
use Rattle.meaning_semantics.specs.declared.outcome.Flow.{Flow}
use Rattle.meaning_semantics.specs.declared.outcome.Flow.TheVariants.{Onward, Break, Continue, Return}
use Rattle.meaning_semantics.specs.declared.outcome.Stop.{Stop}
use Rattle.meaning_semantics.specs.declared.outcome.Stop.TheVariants.{Undefined as IsUndefined, Broken as IsBroken}
use Rattle.meaning_semantics.specs.declared.source_run.Unkept.TheVariants as unkept
use Rattle.meaning_semantics.specs.declared.source_run.SourceRun.{SourceRun}
use Rattle.meaning_semantics.specs.declared.source_run.SourceRun.TheVariants.{Done, Undefined, Broken}
use Rattle.meaning_semantics.specs.State.{State, Outcome, Fine, Stopped, then_do, bound, counted}
use Rattle.meaning_semantics.specs.Values.{Calls}
use Rattle.meaning_semantics.specs.Statements.{Source, declared, entered, run_items}

-- the value that a function's body gives back
abbrev pub given_back : Flow → Option ℕ
given_back Onward = None
given_back Break = None
given_back Continue = None
given_back (Return word) = word

-- a call counts its function, writes the parameters and runs the body
abbrev pub enter : Source → Calls → Option Function → Calls
enter source call None number words at st = Stopped (IsUndefined 0 at)
enter source call (Some (Defined specifiers name name_at params first body body_at function_at)) number words at st =
    then_do (bound first at words (counted number st)) (λ flow st1.
    then_do (run_items source call body (entered body st1)) (λ flow st2. Fine (given_back flow) st2))

-- calls that are nested at most so deep
abbrev pub calls : Source → (depth : ℕ) → Calls
calls source zero number words at st = Stopped (IsUndefined 0 at)
calls source (suc depth) number words at st = enter source (calls source depth) (slice_get source.program.functions number) number words at st

abbrev pub size_of : Extent → ℕ
size_of Scalar = 1
size_of (Array size) = size
size_of Parameter = 1

-- objects of file level are 0 at first (C11 6.7.9, paragraph 10)
abbrev pub first_of : Duration → Option ℕ
first_of Static = Some 0
first_of Automatic = None

abbrev pub elements_of : Variable → List (Option ℕ)
elements_of variable = replicate (size_of variable.extent) (first_of variable.duration)

-- the state before anything was initialised
abbrev pub start : Program → (markers : ℕ) → (input : List ℕ) → State
start program markers input = record { objects = map elements_of program.variables; input = input; output = []; counts = replicate (length program.functions + markers) 0 }

-- the initial values of file level
abbrev pub initialised_all : Source → Calls → List External → State → Outcome Flow
initialised_all source call [] st = Fine Onward st
initialised_all source call (Restricting pragma ∷ rest) st = initialised_all source call rest st
initialised_all source call (Declaring declaration ∷ rest) st = then_do (declared source call declaration st) (λ flow st1. initialised_all source call rest st1)
initialised_all source call (Defining function ∷ rest) st = initialised_all source call rest st

-- main, whose rank is how many calls nest within its own
abbrev pub main_called : Source → (main rank : ℕ) → State → Outcome (Option ℕ)
main_called source main rank st = calls source (rank + 1) main [] 0 st

abbrev pub ran : Source → (main rank : ℕ) → State → Outcome (Option ℕ)
ran source main rank st = then_do (initialised_all source (calls source 0) source.program.items st) (λ flow st1. main_called source main rank st1)

-- the count of a function or marker, by the names of all of them
abbrev pub count_of : List NameId → (counts : List ℕ) → (name : ℕ) → ℕ
count_of names counts name = slice_index_or counts (index_of name (map (λ n. n.0) names)) 0

-- a sum of multiples of counts
abbrev pub sum_of : List NameId → (counts : List ℕ) → List Term → ℕ
sum_of names counts [] = 0
sum_of names counts (term ∷ terms) = term.coef * count_of names counts term.name.0 + sum_of names counts terms

abbrev pub compared : Compare → ℕ → ℕ → Bool
compared AtMost x y = nat_le x y
compared AtLeast x y = nat_le y x
compared Equal x y = x == y

abbrev pub holds : List NameId → (counts : List ℕ) → Restriction → Bool
holds names counts restriction = compared restriction.op (sum_of names counts restriction.left) (sum_of names counts restriction.right)

-- the place of the first restriction that does not hold
abbrev pub first_violated : List NameId → (counts : List ℕ) → List Restriction → Option ℕ
first_violated names counts [] = None
first_violated names counts (restriction ∷ rest) = if holds names counts restriction then first_violated names counts rest else Some restriction.at

-- the end of main without a value gives 0 (C11 5.1.2.2.3)
abbrev pub or_zero : Option ℕ → ℕ
or_zero None = 0
or_zero (Some word) = word

abbrev pub finished : Option ℕ → Option ℕ → State → SourceRun
finished None result st = Done st.output (signed_word (or_zero result)) st.counts
finished (Some at) result st = Broken (unkept.Restriction at)

abbrev pub stopped : Stop → SourceRun
stopped (IsUndefined rule at) = Undefined rule at
stopped (IsBroken at) = Broken (unkept.Loop at)

abbrev pub ended : List NameId → List Restriction → Outcome (Option ℕ) → SourceRun
ended names restrictions (Fine result st) = finished (first_violated names st.counts restrictions) result st
ended names restrictions (Stopped stop) = stopped stop

-- what a program does on an input, under its facts
abbrev pub meaning : Program → (names : List (List ℕ)) → Facts → (input : List ℕ) → SourceRun
meaning program names facts input =
    let main = main_of program names in
    ended (facts.functions ++ facts.markers) facts.restrictions
    (ran (record { program = program; bounds = facts.bounds }) main (slice_index_or facts.ranks.of_functions main 0) (start program (length facts.markers) input))
