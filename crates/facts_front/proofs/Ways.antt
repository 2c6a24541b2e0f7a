-- A source that is read in one of the ways.
use Rattle.std.proofs.Common.{ℕ, Bool, List}
use Rattle.facts_definitions.specs.declared.facts.Facts.{Facts}
use Rattle.types_tree.specs.Tree.{Program}
use Rattle.facts_sources.specs.Sources.{IsSource, IsSourceBy}

pub one_way : (derive : Bool) (source : List ℕ) (names : List (List ℕ)) (program : Program) (facts : Facts) → IsSourceBy derive source names program facts → IsSource source names program facts
one_way derive source names program facts by = record { derive = derive; has_program = by.has_program; has_facts = by.has_facts }
