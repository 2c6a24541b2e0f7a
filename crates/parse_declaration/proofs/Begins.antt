-- A token that neither opens nor ends the part at hand begins an operand or a parameter.
use Rattle.std.proofs.Common.{◌≡◌, ℕ, refl}
use Rattle.c_tree.specs.declared.token.TokenKind.TheVariants as kinds
use Rattle.c_tree.specs.Said.{Lexeme, Plain}
use Rattle.c_tree.specs.Tree.{Exprs, Nothing, Shape}
use Rattle.parse_grammar.specs.Begun.{Base, Bytes, Declarator, Head, Initialises, Lists, Proto, Sizes}
use Rattle.parse_declaration.specs.Others.{IsOther}
use Rattle.parse_grammar.specs.Machine.{begin, initial, listed, param_begins, params_open, sizing, specifier_of}

pub size_begins : (said : Lexeme) (here : ℕ) (declarator : Declarator) → IsOther kinds.RightBracket said → begin said here (Base (Sizes declarator)) ≡ sizing said here declarator
size_begins (Plain kinds.RightBracket) here declarator h = absurd h
size_begins said here declarator h = refl

pub value_begins : (said : Lexeme) (here : ℕ) (head : Head) (name : Bytes) (shape : Shape Bytes) (at : ℕ) → IsOther kinds.LeftBrace said → begin said here (Base (Initialises head name shape at)) ≡ initial said here head name shape at
value_begins (Plain kinds.LeftBrace) here head name shape at h = absurd h
value_begins said here head name shape at h = refl

pub next_begins : (said : Lexeme) (here : ℕ) (head : Head) (name : Bytes) (shape : Shape Bytes) (front : Exprs Bytes) (at : ℕ) → IsOther kinds.RightBrace said → begin said here (Base (Lists head name shape front at)) ≡ listed said here head name shape front at
next_begins (Plain kinds.RightBrace) here head name shape front at h = absurd h
next_begins said here head name shape front at h = refl

pub param_opens : (said : Lexeme) (here : ℕ) (proto : Proto) → IsOther kinds.RightParen said → param_begins (specifier_of said) here proto Nothing ≡ params_open said here proto
param_opens (Plain kinds.RightParen) here proto h = absurd h
param_opens said here proto h = refl
