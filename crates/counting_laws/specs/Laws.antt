-- Derived bounds are kept by every run, and wider ones change no meaning.
use Rattle.std.specs.Prelude.{◌≡◌, ◌≢◌, ℕ, List, Ok, All}
use Rattle.types_calls.specs.Calls.{graph_of}
use Rattle.types_calls.specs.Chains.{AreRanks}
use Rattle.facts_definitions.specs.FlowFacts.{derived_bounds, flow_facts}
use Rattle.facts_definitions.specs.declared.facts.Facts.{Facts}
use Rattle.types_calls.specs.declared.ranks.Ranks.{Ranks}
use Rattle.meaning_semantics.specs.Runs.{meaning}
use Rattle.meaning_semantics.specs.declared.source_run.SourceRun.TheVariants.{Broken}
use Rattle.meaning_semantics.specs.declared.source_run.Unkept.TheVariants.{Loop}
use Rattle.types_tree.specs.Tree.{Program}
use Rattle.types_seen.specs.Units.{HasTree}
use Rattle.facts_loops.specs.CountingLoops.{derived_of, loops_of}
use Rattle.facts_loops.specs.declared.form.LoopForm.{LoopForm}
use Rattle.counting_laws.specs.Wider.{HasDerived, OnlyDerived, Widens}

abbrev pub LoopsFind : Type 0
LoopsFind = (names : List (List ℕ)) (program : Program) → HasTree names program → All (λ (l : LoopForm). derived_bounds (derived_of program) l.number ≡ l.derived) (loops_of program)

abbrev pub FactsHave : Type 0
FactsHave = (names : List (List ℕ)) (program : Program) (ranks : Ranks) (facts : Facts) → HasTree names program → AreRanks (graph_of program) ranks.of_functions → flow_facts program names ranks (derived_of program) ≡ Ok facts → HasDerived names program facts

abbrev pub DerivedHold : Type 0
DerivedHold = (names : List (List ℕ)) (program : Program) (facts : Facts) (input : List ℕ) → HasDerived names program facts → (at : ℕ) → OnlyDerived program at → meaning program names facts input ≢ Broken (Loop at)

abbrev pub WiderIsSame : Type 0
WiderIsSame = (names : List (List ℕ)) (program : Program) (narrow wide : Facts) (input : List ℕ) → HasDerived names program narrow → Widens program narrow wide → meaning program names wide input ≡ meaning program names narrow input
