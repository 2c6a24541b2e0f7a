-- What a source shows, counts and bounds, and what becomes of its marks and loops in its plan.
use Rattle.std.specs.Prelude.{◌≡◌, ℕ, ◌+◌, List, [], ◌∷◌, ◌++◌, length, map, Option, Some, None, slice_index_or}
use Rattle.wcc_base.specs.Words.{signed_word}
use Rattle.facts_definitions.specs.FlowFacts.{main_of}
use Rattle.facts_definitions.specs.declared.facts.Facts.{Facts}
use Rattle.facts_loops.specs.Loops.{source_loops}
use Rattle.meaning_semantics.specs.Runs.{ran, start}
use Rattle.meaning_semantics.specs.State.{Outcome}
use Rattle.meaning_semantics.specs.declared.source_run.SourceRun.{SourceRun}
use Rattle.meaning_semantics.specs.declared.source_run.SourceRun.TheVariants.{Done, Undefined, Broken}
use Rattle.types_tree.specs.Tree.{Program}
use Rattle.high_pass.specs.Carries.{Behaviour, Shown}
use Rattle.high_pass.specs.Listing.{Listing, LoopEntry}
use Rattle.plan_carried.specs.Loops.{Planned, bounded, functions_loops}
use Rattle.plan_runs.specs.Kept.{kept_run, same_marks}

-- the marks of a source: its functions, and then its markers
abbrev pub source_marks : Program → Facts → ℕ
source_marks program facts = length program.functions + length facts.markers

abbrev pub source_outcome : Program → (names : List (List ℕ)) → Facts → (input : List ℕ) → Outcome (Option ℕ)
source_outcome program names facts input =
    ran (record { program = program; bounds = facts.bounds }) (main_of program names) (slice_index_or facts.ranks.of_functions (main_of program names) 0) (start program (length facts.markers) input)

-- what the run of a source on an input shows, where it is kept
abbrev pub source_shown : Program → (names : List (List ℕ)) → Facts → (input : List ℕ) → Option Shown
source_shown program names facts input = kept_run (facts.functions ++ facts.markers) facts.restrictions (source_outcome program names facts input)

-- a source as passes see programs; its loops are bounded by their starts
abbrev pub source_behaviour : Program → (names : List (List ℕ)) → Facts → Behaviour
source_behaviour program names facts = record {
  runs = source_shown program names facts;
  functions = length program.functions;
  marks = source_marks program facts;
  loops = map bounded (source_loops program facts);
}

-- each loop has one copy, and each start of it is one start
abbrev pub loop_entry : Planned → LoopEntry
loop_entry l = record { old = l.old; new = (record { id = l.id; factor = 1 }) ∷ [] }

-- what became of a source in its plan: each mark is its own copy
abbrev pub planned_listing : Program → Facts → Listing
planned_listing program facts = record {
  marks = same_marks (source_marks program facts);
  loops = map loop_entry (functions_loops facts.bounds program.functions);
  nevers = [];
}

-- what is shown is the end of main, where the meaning is one
abbrev pub MeansAlike : SourceRun → Option Shown → Type 0
MeansAlike (Done output value counts) None = ⊥
MeansAlike (Done output value counts) (Some s) = (s.output ≡ output) × (signed_word s.value ≡ value) × ((m : ℕ) → s.counts m ≡ slice_index_or counts m 0)
MeansAlike (Undefined rule at) None = Unit {0}
MeansAlike (Undefined rule at) (Some s) = ⊥
MeansAlike (Broken what) None = Unit {0}
MeansAlike (Broken what) (Some s) = ⊥
