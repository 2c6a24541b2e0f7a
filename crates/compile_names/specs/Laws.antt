-- What is counted in a source has a name.
use Rattle.std.specs.Prelude.{ℕ, List, ◌++◌, All}
use Rattle.facts_definitions.specs.declared.facts.Facts.{Facts}
use Rattle.facts_sources.specs.Sources.{IsSource}
use Rattle.c_tree.specs.Names.{HasNameForm, name_of}
use Rattle.c_tree.specs.declared.expression.NameId.{NameId}
use Rattle.types_tree.specs.Tree.{Program}

-- the number is that of a name
abbrev pub IsNamed : List (List ℕ) → NameId → Type 0
IsNamed names id = HasNameForm (name_of names id.0)

-- its functions and its markers
abbrev pub CountedAreNamed : Type 0
CountedAreNamed = (source : List ℕ) (names : List (List ℕ)) (program : Program) (facts : Facts) → IsSource source names program facts → All (IsNamed names) (facts.functions ++ facts.markers)
