-- No name of a tree is empty, since the names of its tokens aren't.
use Rattle.std.proofs.Common.{◌≡◌, ℕ, ◌-◌, ◌<◌, List, [], ◌∷◌, length, arith, length-take, length-drop}
use Rattle.std.specs.Prelude.{slice_range}
use Rattle.c_tree.specs.declared.pragma.Pragma.{Pragma}
use Rattle.c_tree.specs.declared.token.Token.{Token}
use Rattle.c_tree.specs.declared.token.TokenKind.{TokenKind}
use Rattle.c_tree.specs.declared.token.TokenKind.TheVariants as tokens
use Rattle.c_tree.specs.Holding.{HoldsUnit}
use Rattle.c_tree.specs.Named.{map_row, named_external, named_unit}
use Rattle.c_tree.specs.Names.{name_of}
use Rattle.c_tree.specs.Said.{AreTokens, IsToken, TokenList, lexeme}
use Rattle.c_tree.specs.Spelling.{IsSpelling, spell_externals, spoken}
use Rattle.c_tree.specs.Tree.{TranslationUnit, Whole}
use Rattle.c_tree.proofs.Holding.{EachSpoken, Meets, holds_externals, marks_agree}

abbrev IsSomeName : List ℕ → Type 0
IsSomeName name = 0 < length name

abbrev IsAny : List ℕ → Type 0
IsAny text = Unit {0}

said_some : (kind : TokenKind) (source : List ℕ) (at end : ℕ) → IsToken kind source at end → Meets IsSomeName IsAny (lexeme kind source at end)
said_some tokens.Name source at end is = omega (arith, size, is.some)
  where
    size : length (slice_range source at end) ≡ end - at
    size = simp (length-take, length-drop) (omega (arith, is.within, is.some))
said_some tokens.Number source at end is = tt
said_some tokens.Character source at end is = tt
said_some tokens.LoopBound source at end is = tt
said_some tokens.Marker source at end is = tt
said_some tokens.FlowRestriction source at end is = tt
said_some _ source at end is = tt

spoken_some : (source : List ℕ) (list : List Token) → AreTokens source list → EachSpoken (Meets IsSomeName IsAny) (spoken (record { source = source; list = list }))
spoken_some source [] are = tt
spoken_some source (token ∷ list) are = (said_some token.kind source token.at token.end are.0, spoken_some source list are.1)

abbrev pub HasName : List (List ℕ) → ℕ → Type 0
HasName names n = 0 < length (name_of names n)

abbrev pub IsPragma : Pragma → Type 0
IsPragma pragma = Unit {0}

-- each number in a tree that tokens are the spelling of has a name
pub named_each : (tokens : TokenList) (names : List (List ℕ)) (unit : TranslationUnit ℕ) → AreTokens tokens.source tokens.list → IsSpelling (named_unit (name_of names) unit) tokens → HoldsUnit (HasName names) IsPragma unit
named_each tokens names (Whole items at) are spelled =
    let each = marks_agree (Meets IsSomeName IsAny) (spell_externals (map_row (named_external (name_of names)) items)) (spoken tokens) spelled (spoken_some tokens.source tokens.list are) in
    holds_externals (name_of names) IsSomeName IsAny items each
