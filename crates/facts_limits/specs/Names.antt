-- How long names are, all together.
use Rattle.std.specs.Prelude.{ℕ, ◌+◌, ◌≤◌, List, [], ◌∷◌, length}
use Rattle.facts_sources.specs.Sources.{HasUnit}
use Rattle.c_tree.specs.Tree.{TranslationUnit}

abbrev pub names_length : List (List ℕ) → ℕ
names_length [] = 0
names_length (name ∷ names) = length name + names_length names

abbrev pub NamesFit : Type 0
NamesFit = (source : List ℕ) (names : List (List ℕ)) (unit : TranslationUnit ℕ) → HasUnit source names unit → names_length names ≤ length source
