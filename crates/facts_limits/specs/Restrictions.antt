-- The restrictions of a source are few, and of few and small terms.
use Rattle.std.specs.Prelude.{ℕ, List}
use Rattle.facts_definitions.specs.declared.facts.Facts.{Facts}
use Rattle.facts_sources.specs.Sources.{IsSource}
use Rattle.types_tree.specs.Tree.{Program}
use Rattle.facts_limits.specs.Limits.{AreLimited}

abbrev pub RestrictionsAreLimited : Type 0
RestrictionsAreLimited = (source : List ℕ) (names : List (List ℕ)) (program : Program) (facts : Facts) → IsSource source names program facts → AreLimited facts
