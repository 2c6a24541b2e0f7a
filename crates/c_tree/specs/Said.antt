-- Tokens: the form of each kind, and what a token says (C11 6.4).
use Rattle.std.specs.Prelude.{ℕ, ◌-◌, ◌<◌, ◌≤◌, List, [], ◌∷◌, length, slice_index, slice_range, codes}
use Rattle.c_tree.specs.declared.token.TokenKind.{TokenKind}
use Rattle.c_tree.specs.declared.token.TokenKind.TheVariants as kinds
use Rattle.c_tree.specs.declared.token.Token.{Token}
use Rattle.c_tree.specs.declared.token.Constant.{Constant}
use Rattle.c_tree.specs.Bytes.{IsLetter, IsNameByte, Each, Spans, SpansOne}
use Rattle.c_tree.specs.Words.{text, reserved_words}
use Rattle.c_tree.specs.Constants.{IsInteger, IsCharacter, integer, character}
use Rattle.c_tree.specs.Pragmas.{IsPragma, pragma_text}

-- letters and digits, the first no digit, and no reserved word
pub record IsName (source : List ℕ) (at end : ℕ) : Type 0 where
  pub first : IsLetter (slice_index source at)
  pub bytes : Each IsNameByte source at end
  pub free : SpansOne source at end reserved_words → ⊥

-- the span has the form of the kind
abbrev pub HasForm : TokenKind → List ℕ → (at end : ℕ) → Type 0
HasForm kinds.Name source at end = IsName source at end
HasForm kinds.Number source at end = IsInteger source at end
HasForm kinds.Character source at end = IsCharacter source at (end - 1)
HasForm kinds.LoopBound source at end = IsPragma (codes "loopbound") source at end
HasForm kinds.Marker source at end = IsPragma (codes "marker") source at end
HasForm kinds.FlowRestriction source at end = IsPragma (codes "flowrestriction") source at end
HasForm kind source at end = Spans source at end (text kind)

-- a span of the source that has the form of its kind
pub record IsToken (kind : TokenKind) (source : List ℕ) (at end : ℕ) : Type 0 where
  pub some : at < end
  pub within : end ≤ length source
  pub form : HasForm kind source at end

-- a source, and tokens that are spans of it
pub record TokenList : Type 0 where
  pub source : List ℕ
  pub list : List Token

abbrev pub AreTokens : List ℕ → List Token → Type 0
AreTokens source [] = Unit {0}
AreTokens source (token ∷ tokens) = IsToken token.kind source token.at token.end × AreTokens source tokens

-- what a token says: a keyword or punctuator itself, a name its bytes, an integer constant its value and type,
-- a character constant its value, a pragma its text
pub data Lexeme : Type 0 where
  Plain : (kind : TokenKind) → Lexeme
  Name : (bytes : List ℕ) → Lexeme
  Integer : (constant : Constant) → Lexeme
  Character : (value : ℕ) → Lexeme
  Pragma : (kind : TokenKind) (bytes : List ℕ) → Lexeme

-- what a token of this kind says
abbrev pub lexeme : TokenKind → List ℕ → (at end : ℕ) → Lexeme
lexeme kinds.Name source at end = Name (slice_range source at end)
lexeme kinds.Number source at end = Integer (integer source at end)
lexeme kinds.Character source at end = Character (character source at (end - 1))
lexeme kinds.LoopBound source at end = Pragma kinds.LoopBound (pragma_text source at end)
lexeme kinds.Marker source at end = Pragma kinds.Marker (pragma_text source at end)
lexeme kinds.FlowRestriction source at end = Pragma kinds.FlowRestriction (pragma_text source at end)
lexeme kind source at end = Plain kind

abbrev pub said : List ℕ → Token → Lexeme
said source token = lexeme token.kind source token.at token.end
