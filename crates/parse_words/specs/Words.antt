-- What the tokens of a source say, each name by its number.
use Rattle.std.specs.Prelude.{◌≡◌, ℕ, ◌<◌, List, [], ◌∷◌, ◌++◌, length, map}
use Rattle.c_tree.specs.Names.{name_of, names_of_tokens}
use Rattle.c_tree.specs.Spelling.{Spoken}
use Rattle.parse_words.specs.declared.lexeme.Lexeme.{Lexeme}
use Rattle.parse_words.specs.declared.lexeme.Lexeme.TheVariants as lexemes
use Rattle.parse_words.specs.declared.lexeme.Word.{Word}
use Rattle.parse_words.specs.Lexemes.{word_said}

-- a name has one of so many numbers
abbrev pub IsNumbered : ℕ → Lexeme → Type 0
IsNumbered count (lexemes.Name name) = name.0 < count
IsNumbered count _ = Unit {0}

abbrev pub AreNumbered : ℕ → List Word → Type 0
AreNumbered count [] = Unit {0}
AreNumbered count (word ∷ words) = IsNumbered count word.lexeme × AreNumbered count words

-- words that say this, whatever names come behind these, which are the names in what they say
pub record Tell (words : List Word) (names : List (List ℕ)) (front : List Spoken) : Type 0 where
  pub said : (more : List (List ℕ)) → map (word_said (name_of (names ++ more))) words ≡ front
  pub numbered : AreNumbered (length names) words
  pub named : names ≡ names_of_tokens front
