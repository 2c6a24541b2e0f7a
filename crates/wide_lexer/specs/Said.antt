-- What a token of wide C says (C11 6.4).
use Rattle.std.specs.Prelude.{ℕ, ◌+◌, ◌-◌, ◌<◌, ◌≤◌, List, [], ◌∷◌, length, map, slice_range}
use Rattle.c_tree.specs.Said.{IsToken, lexeme}
use Rattle.wide_tree.specs.Said.{Lexeme, Spoken}
use Rattle.wide_tree.specs.Said as lexemes
use Rattle.wide_lexer.specs.declared.token.Kind.{Kind}
use Rattle.wide_lexer.specs.declared.token.Kind.TheVariants as kinds
use Rattle.wide_lexer.specs.declared.token.Token.{Token}

-- what a token of this kind says: of a string what stands between its quotes
abbrev pub lexeme_of : Kind → List ℕ → (at end : ℕ) → Lexeme
lexeme_of (kinds.Profile kind) source at end = lexemes.Profile (lexeme kind source at end)
lexeme_of (kinds.Keyword word) source at end = lexemes.Keyword word
lexeme_of kinds.Text source at end = lexemes.Text (slice_range source (at + 1) (end - 1))

abbrev pub said : List ℕ → Token → Spoken
said source token = record { said = lexeme_of token.kind source token.at token.end; at = token.at }

-- a source, and tokens that are spans of it
pub record TokenList : Type 0 where
  pub source : List ℕ
  pub list : List Token

abbrev pub spoken : TokenList → List Spoken
spoken tokens = map (said tokens.source) tokens.list

-- the span has the form of the kind
abbrev pub HasForm : Kind → List ℕ → (at end : ℕ) → Type 0
HasForm (kinds.Profile kind) source at end = IsToken kind source at end
HasForm (kinds.Keyword word) source at end = (at < end) × (end ≤ length source)
HasForm kinds.Text source at end = (at + 2 ≤ end) × (end ≤ length source)

abbrev pub AreTokens : List ℕ → List Token → Type 0
AreTokens source [] = Unit {0}
AreTokens source (token ∷ tokens) = HasForm token.kind source token.at token.end × AreTokens source tokens
