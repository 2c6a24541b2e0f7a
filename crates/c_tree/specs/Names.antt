-- The list of a unit's names: those that stand in its tree and in its pragmas (C11 6.4.2.1).
use Rattle.std.specs.Prelude.{◌≢◌, ℕ, ◌<◌, nat_eq, if◌then◌else◌, List, [], ◌∷◌, ◌++◌, length, map, slice_index, slice_index_or}
use Rattle.std.specs.List.{All, Contains, list_any}
use Rattle.std.specs.Cmp.Lexicographic.{pointwise}
use Rattle.c_tree.specs.declared.token.TokenKind.TheVariants as kinds
use Rattle.c_tree.specs.Bytes.{IsLetter, IsNameByte, Each}
use Rattle.c_tree.specs.Holding.{HoldsUnit}
use Rattle.c_tree.specs.Pragmas.{names_in}
use Rattle.c_tree.specs.Said.{Lexeme, Name, Pragma}
use Rattle.c_tree.specs.Spelling.{Spoken, mark_said, spell_unit}
use Rattle.c_tree.specs.Tree.{TranslationUnit}

-- the name of this number in a list of names
abbrev pub name_of : List (List ℕ) → ℕ → List ℕ
name_of names id = slice_index_or names id []

-- no name stands there twice
abbrev pub AreDistinct : List (List ℕ) → Type 0
AreDistinct names = (i j : ℕ) → i < j → j < length names → name_of names i ≢ name_of names j

-- letters, digits and `_`, the first no digit; in a pragma a keyword is a name too
pub record HasNameForm (name : List ℕ) : Type 0 where
  pub some : 0 < length name
  pub first : IsLetter (slice_index name 0)
  pub bytes : Each IsNameByte name 0 (length name)

abbrev pub AreNames : List (List ℕ) → Type 0
AreNames names = All HasNameForm names

-- the names that a token says: a name itself; a marker or a restriction those in its text
abbrev pub names_said : Lexeme → List (List ℕ)
names_said (Name bytes) = bytes ∷ []
names_said (Pragma kinds.Marker text) = names_in text
names_said (Pragma kinds.FlowRestriction text) = names_in text
names_said _ = []

-- those that tokens say, in order
abbrev pub names_among : List Lexeme → List (List ℕ)
names_among [] = []
names_among (said ∷ rest) = names_said said ++ names_among rest

-- one name more, unless it is among them
abbrev pub with_name : List (List ℕ) → List ℕ → List (List ℕ)
with_name names name = if list_any (pointwise nat_eq name) names then names else names ++ name ∷ []

-- these names and those, each once, in the order in which they first stand
abbrev pub with_names : List (List ℕ) → List (List ℕ) → List (List ℕ)
with_names names [] = names
with_names names (name ∷ more) = with_names (with_name names name) more

-- the names that stand in a unit's spelling, each once, in the order in which they first stand
abbrev pub names_of_unit : TranslationUnit (List ℕ) → List (List ℕ)
names_of_unit unit = with_names [] (names_among (map mark_said (spell_unit unit)))

-- those that tokens say, each once, in the order in which they first stand
abbrev pub names_of_tokens : List Spoken → List (List ℕ)
names_of_tokens tokens = with_names [] (names_among (map (λ token. token.said) tokens))

-- each number in a tree is that of a name in the list, and each name in its pragmas stands there
abbrev pub AreListed : List (List ℕ) → TranslationUnit ℕ → Type 0
AreListed names unit = HoldsUnit (λ number. number < length names) (λ pragma. All (Contains names) (names_in pragma.text)) unit
