-- Tokens that are neither keyword nor punctuator.
use Rattle.c_tree.specs.Said.{Lexeme, Plain}

abbrev pub IsWord : Lexeme → Type 0
IsWord (Plain kind) = ⊥
IsWord _ = Unit {0}
