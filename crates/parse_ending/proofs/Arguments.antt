-- A token that doesn't end a call without arguments begins its first argument.
use Rattle.std.proofs.Common.{◌≡◌, ℕ, refl}
use Rattle.c_tree.specs.declared.token.TokenKind.TheVariants as kinds
use Rattle.c_tree.specs.Said.{Lexeme, Plain}
use Rattle.c_tree.specs.Tree.{NoExpr}
use Rattle.parse_grammar.specs.Begun.{Bytes, Stack, InCall}
use Rattle.parse_grammar.specs.Machine.{begin, called}

abbrev pub IsOther : Lexeme → Type 0
IsOther (Plain kinds.RightParen) = ⊥
IsOther said = Unit {0}

pub argument_begins : (said : Lexeme) (here : ℕ) (function : Bytes) (at : ℕ) (under : Stack) → IsOther said → begin said here (InCall function at NoExpr under) ≡ called said here function at under
argument_begins (Plain kinds.RightParen) here function at under h = absurd h
argument_begins said here function at under h = refl
