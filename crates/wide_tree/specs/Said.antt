-- What a token of wide C says (C11 6.4).
use Rattle.std.specs.Prelude.{ℕ, List}
use Rattle.c_tree.specs.Said as profile
use Rattle.wide_tree.specs.declared.word.Word.{Word}

-- a token of the profile what it says there, a keyword that the profile lacks itself, a string what stands between its quotes
pub data Lexeme : Type 0 where
  Profile : (said : profile.Lexeme) → Lexeme
  Keyword : (word : Word) → Lexeme
  Text : (bytes : List ℕ) → Lexeme

-- what a token says, and where
pub record Spoken : Type 0 where
  pub said : Lexeme
  pub at : ℕ
