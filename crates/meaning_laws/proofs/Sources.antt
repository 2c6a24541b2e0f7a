-- Runs of typed programs.
use Rattle.std.proofs.Common.{ℕ, List}
use Rattle.types_calls.specs.Calls.{graph_of}
use Rattle.types_calls.specs.Chains.{AreRanks}
use Rattle.types_tree.specs.Tree.{Program}
use Rattle.types_seen.specs.Units.{HasTree}
use Rattle.facts_definitions.specs.declared.facts.Facts.{Facts}
use Rattle.meaning_semantics.specs.Runs.{meaning}
use Rattle.meaning_laws.specs.Told.{IsTold}
use Rattle.meaning_laws.proofs.Calls.{told}
use Rattle.meaning_laws.proofs.Scoping.{scoped}

pub runs_are_told : (names : List (List ℕ)) (program : Program) (facts : Facts) (input : List ℕ) → HasTree names program → AreRanks (graph_of program) facts.ranks.of_functions → IsTold (meaning program names facts input)
runs_are_told names program facts input tree are = told program names facts input (scoped names program facts tree are)
