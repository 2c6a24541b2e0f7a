-- Tokens that neither open nor end the part at hand.
use Rattle.c_tree.specs.declared.token.TokenKind.{TokenKind}
use Rattle.c_tree.specs.declared.token.TokenKind.TheVariants as kinds
use Rattle.c_tree.specs.Said.{Lexeme, Plain}

-- it is not this bracket
abbrev pub IsOther : TokenKind → Lexeme → Type 0
IsOther kinds.LeftBrace (Plain kinds.LeftBrace) = ⊥
IsOther kinds.RightBrace (Plain kinds.RightBrace) = ⊥
IsOther kinds.RightBracket (Plain kinds.RightBracket) = ⊥
IsOther kinds.RightParen (Plain kinds.RightParen) = ⊥
IsOther kind said = Unit {0}
