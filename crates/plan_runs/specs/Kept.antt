-- What a kept run of a source shows.
use Rattle.std.specs.Prelude.{◌≡◌, ℕ, List, [], ◌∷◌, map, Option, Some, None, slice_index_or}
use Rattle.std.specs.List.{range_with_len}
use Rattle.facts_definitions.specs.declared.facts.Restriction.{Restriction}
use Rattle.meaning_semantics.specs.Runs.{calls, first_violated, initialised_all, or_zero, ran}
use Rattle.meaning_semantics.specs.State as source
use Rattle.meaning_semantics.specs.declared.outcome.Flow.{Flow}
use Rattle.c_tree.specs.declared.expression.NameId.{NameId}
use Rattle.high_ir.specs.Runs as runs
use Rattle.high_ir.specs.Tree as high
use Rattle.plan_runs.specs.ExpressionFits.{Signatures}
use Rattle.plan_runs.specs.Meets.{Layout, MeetsWorld}
use Rattle.plan_runs.specs.Flows.{Rest}
use Rattle.plan_runs.specs.Serves.{source_with}
use Rattle.high_pass.specs.Carries.{Shown}
use Rattle.high_pass.specs.Listing.{MarkEntry}

-- a run that keeps its restrictions
abbrev pub shown_unless : (violated : Option ℕ) → (result : Option ℕ) → source.State → Option Shown
shown_unless (Some at) result st = None
shown_unless None result st = Some (record { value = or_zero result; output = st.output; counts = λ m. slice_index_or st.counts m 0 })

-- a run that is undefined or breaks a loop's bound is not kept
abbrev pub kept_run : List NameId → List Restriction → source.Outcome (Option ℕ) → Option Shown
kept_run names restrictions (source.Fine result st) = shown_unless (first_violated names st.counts restrictions) result st
kept_run names restrictions (source.Stopped stop) = None

-- each mark is its own copy
abbrev pub same_mark : ℕ → MarkEntry
same_mark m = record { old = m; new = m ∷ [] }

abbrev pub same_marks : ℕ → List MarkEntry
same_marks marks = map same_mark (range_with_len 0 marks)

-- what the source and the high program have in common when main is called
abbrev pub BeginsAlike : Layout → List high.Object → (input : List ℕ) → source.Outcome Flow → Type 0
BeginsAlike layout objects input (source.Stopped stop) = Unit {0}
BeginsAlike layout objects input (source.Fine flow st) = MeetsWorld layout st (runs.start objects input) []

-- the run of a source on an input, from its objects of file level on
abbrev pub source_ran : Layout → Rest → (main : ℕ) → source.State → source.Outcome (Option ℕ)
source_ran layout rest main st = ran (source_with layout rest) main (layout.rank main) st

abbrev pub begun_from : Layout → Rest → source.State → source.Outcome Flow
begun_from layout rest st = initialised_all (source_with layout rest) (calls (source_with layout rest) 0) rest.items st

-- a program whose main takes nothing, and whose world begins as the source's
pub record Begins (layout : Layout) (signatures : Signatures) (rest : Rest) (p : high.Program) (first : List ℕ → source.State) : Type 0 where
  pub main_rank : runs.rank_or p.functions p.main 0 ≡ layout.rank p.main
  pub main_takes : signatures.parameters p.main ≡ []
  pub marks_are : p.marks ≡ layout.marks
  pub alike : (input : List ℕ) → BeginsAlike layout p.objects input (begun_from layout rest (first input))
