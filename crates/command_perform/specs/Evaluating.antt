-- What `eval` makes of a source and an input: what the source does by its meaning.
use Rattle.std.specs.Prelude.{◌≡◌, ◌≢◌, ◌≤◌, ℕ, Bool, true, false, List, [], ◌∷◌, length}
use Rattle.wcc_base.specs.Limits.{greatest_of}
use Rattle.wcc_base.specs.declared.limits.Bound.TheVariants as bound
use Rattle.wcc_base.specs.declared.status.Status.{Status}
use Rattle.wcc_base.specs.declared.status.Status.TheVariants as status
use Rattle.facts_definitions.specs.declared.facts.Facts.{Facts}
use Rattle.types_tree.specs.Tree.{Program}
use Rattle.meaning_semantics.specs.declared.source_run.SourceRun.{SourceRun}
use Rattle.meaning_semantics.specs.declared.source_run.SourceRun.TheVariants.{Done, Undefined, Broken}
use Rattle.meaning_semantics.specs.declared.source_run.Unkept.{Unkept}
use Rattle.meaning_semantics.specs.declared.source_run.Unkept.TheVariants as unkept
use Rattle.meaning_semantics.specs.Runs.{meaning}
use Rattle.meaning_laws.specs.Told.{IsTold}
use Rattle.counting_laws.specs.Wider.{OnlyDerived}
use Rattle.facts_sources.specs.Sources.{IsSourceBy}
use Rattle.command_words.specs.Requests.{EvalRequest}
use Rattle.command_perform.specs.Lines.{value_line, undefined_line, broken_line}
use Rattle.command_perform.specs.Outputs.{Outputs}
use Rattle.command_perform.specs.Sources.{RefusesProgram}

-- what a run comes to: its output is written only where it is done

abbrev pub broken_outputs : Unkept → Outputs
broken_outputs (unkept.Loop at) = record { status = status.Stopped 5 0 at 0; files = []; lines = broken_line at }
broken_outputs (unkept.Restriction at) = record { status = status.Stopped 6 0 at 0; files = []; lines = broken_line at }

abbrev pub run_outputs : EvalRequest → SourceRun → Outputs
run_outputs asked (Done output value counts) = record {
  status = status.Done;
  files = (asked.output, output) ∷ [];
  lines = value_line value (length output);
}
run_outputs asked (Undefined rule at) = record { status = status.Stopped 4 rule at 0; files = []; lines = undefined_line rule at }
run_outputs asked (Broken what) = broken_outputs what

-- what the program of the source, under its facts, does on the input, where bounds are derived or aren't
pub record IsRun (derive : Bool) (source input : List ℕ) (run : SourceRun) : Type 0 where
  pub spelled : List (List ℕ)
  pub program : Program
  pub facts : Facts
  pub is_source : IsSourceBy derive source spelled program facts
  pub run_is : run ≡ meaning program spelled facts input

-- a run is broken at no loop for which bounds are derived, where they are
abbrev pub KeepsDerived : (derive : Bool) → Program → SourceRun → Type 0
KeepsDerived true program run = (at : ℕ) → OnlyDerived program at → run ≢ Broken (unkept.Loop at)
KeepsDerived false program run = Unit {0}

-- what is made of a run, which is undefined, if at all, by one of the events that the language names, and keeps derived bounds
pub record MakesRun (asked : EvalRequest) (source input : List ℕ) (made : Outputs) : Type 0 where
  pub run : SourceRun
  pub is_run : IsRun asked.derive source input run
  pub told : IsTold run
  pub kept : KeepsDerived asked.derive is_run.program run
  pub made_is : made ≡ run_outputs asked run

-- both files are within their limits, and the source does this on the input
pub record Evaluates (derive : Bool) (source input : List ℕ) (run : SourceRun) : Type 0 where
  pub source_short : length source ≤ greatest_of bound.Source
  pub input_short : length input ≤ greatest_of bound.Input
  pub is_run : IsRun derive source input run

-- both files are within their limits, and the source is refused with this status
pub record IsRejected (derive : Bool) (source input : List ℕ) (s : Status) : Type 0 where
  pub source_short : length source ≤ greatest_of bound.Source
  pub input_short : length input ≤ greatest_of bound.Input
  pub refuses : RefusesProgram derive source s
