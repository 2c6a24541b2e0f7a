-- The names of a source's tree stand in its list, and have the form of names.
use Rattle.std.proofs.Common.{◌≡◌, ℕ, List, [], ◌∷◌, ◌++◌, map, sym, ap, ◌∙◌, subst}
use Rattle.std.specs.List.{All, Contains}
use Rattle.facts_sources.specs.Sources.{HasUnit}
use Rattle.c_tree.specs.Formed.{EachOf}
use Rattle.c_tree.specs.Holding.{HoldsExternal}
use Rattle.c_tree.specs.Named.{map_row, named_external, named_unit}
use Rattle.c_tree.specs.Names.{AreNames, name_of, names_among, names_of_tokens, names_said, with_names}
use Rattle.c_tree.specs.Pragmas.{names_in}
use Rattle.c_tree.specs.Said as lexemes
use Rattle.c_tree.specs.Said.{AreTokens, Lexeme}
use Rattle.c_tree.specs.Spelling.{Mark, mark_said, spell_externals, spell_unit, spoken}
use Rattle.c_tree.specs.Tree.{External, Row, TranslationUnit, Whole}
use Rattle.c_tree.specs.declared.pragma.Pragma.{Pragma}
use Rattle.c_tree.specs.declared.token.TokenKind.{TokenKind}
use Rattle.c_tree.specs.declared.token.TokenKind.TheVariants as kinds
use Rattle.c_tree.proofs.Holding.{EachMark, Meets, holds_externals, said_agree}
use Rattle.c_tree.proofs.Names.{All-from_EachName, EachName, tokens_named, with_names-Contains}
use Rattle.facts_laws.proofs.Cutting.{list_tokens}

-- the names in a text are among these
abbrev pub AreAmong : List (List ℕ) → List ℕ → Type 0
AreAmong names text = All (Contains names) (names_in text)

abbrev pub IsAmong : List (List ℕ) → ℕ → Type 0
IsAmong names number = Contains names (name_of names number)

abbrev pub HasAmong : List (List ℕ) → Pragma → Type 0
HasAmong names pragma = AreAmong names pragma.text

each_front : (P : List ℕ → Type 0) (xs ys : List (List ℕ)) → EachName P (xs ++ ys) → EachName P xs
each_front P [] ys h = tt
each_front P (x ∷ xs) ys h = (h.0, each_front P xs ys h.1)

each_behind : (P : List ℕ → Type 0) (xs ys : List (List ℕ)) → EachName P (xs ++ ys) → EachName P ys
each_behind P [] ys h = h
each_behind P (x ∷ xs) ys h = each_behind P xs ys h.1

module _ (names : List (List ℕ)) where
  pragma_meets : (kind : TokenKind) (text : List ℕ) → EachName (Contains names) (names_said (lexemes.Pragma kind text)) → Meets (Contains names) (AreAmong names) (lexemes.Pragma kind text)
  pragma_meets kinds.Marker text h = All-from_EachName (Contains names) (names_in text) h
  pragma_meets kinds.FlowRestriction text h = All-from_EachName (Contains names) (names_in text) h
  pragma_meets _ text h = tt

  said_meets : (said : Lexeme) → EachName (Contains names) (names_said said) → Meets (Contains names) (AreAmong names) said
  said_meets (lexemes.Plain kind) h = tt
  said_meets (lexemes.Name bytes) h = h.0
  said_meets (lexemes.Integer constant) h = tt
  said_meets (lexemes.Character value) h = tt
  said_meets (lexemes.Pragma kind text) h = pragma_meets kind text h

  marks_meet : (ms : List Mark) → EachName (Contains names) (names_among (map mark_said ms)) → EachMark (Meets (Contains names) (AreAmong names)) ms
  marks_meet [] h = tt
  marks_meet (m ∷ ms) h =
      let rest = names_among (map mark_said ms) in
      (said_meets (mark_said m) (each_front (Contains names) (names_said (mark_said m)) rest h), marks_meet ms (each_behind (Contains names) (names_said (mark_said m)) rest h))

  -- a spelling whose names are these
  row_among : (row : Row (External ℕ)) → names ≡ with_names [] (names_among (map mark_said (spell_externals (map_row (named_external (name_of names)) row)))) → EachOf (HoldsExternal (IsAmong names) (HasAmong names)) row
  row_among row e =
      let said = names_among (map mark_said (spell_externals (map_row (named_external (name_of names)) row))) in
      let all = subst (λ ns. EachName (Contains ns) said) (sym e) (with_names-Contains [] said) in
      holds_externals (name_of names) (Contains names) (AreAmong names) row (marks_meet (spell_externals (map_row (named_external (name_of names)) row)) all)

abbrev pub items_of : TranslationUnit ℕ → Row (External ℕ)
items_of (Whole items at) = items

pub tree_among : (source : List ℕ) (names : List (List ℕ)) (unit : TranslationUnit ℕ) → HasUnit source names unit → EachOf (HoldsExternal (IsAmong names) (HasAmong names)) (items_of unit)
tree_among source names (Whole items at) h = row_among names items h.in_order

pub names_formed : (source : List ℕ) (names : List (List ℕ)) (unit : TranslationUnit ℕ) → HasUnit source names unit → AreNames names
names_formed source names unit h =
    let tokens = h.tokens in
    let are = subst (λ s. AreTokens s tokens.list) (sym h.of_source) (list_tokens source tokens.list h.has) in
    let said = said_agree (spell_unit (named_unit (name_of names) unit)) (spoken tokens) h.tree.1 in
    let same : names_of_tokens (spoken tokens) ≡ names = ap (λ l. with_names [] (names_among l)) said ∙ sym h.in_order in
    subst AreNames same (tokens_named tokens.source tokens.list are)
