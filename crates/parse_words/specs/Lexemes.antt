-- What a token says, with the bytes of a name in place of its number.
use Rattle.std.specs.Prelude.{ℕ, List}
use Rattle.c_tree.specs.Said as lexemes
use Rattle.c_tree.specs.Spelling.{Spoken}
use Rattle.parse_words.specs.declared.lexeme.Lexeme.{Lexeme}
use Rattle.parse_words.specs.declared.lexeme.Lexeme.TheVariants as said
use Rattle.parse_words.specs.declared.lexeme.Word.{Word}

abbrev pub lexeme_of : (ℕ → List ℕ) → Lexeme → lexemes.Lexeme
lexeme_of f (said.Plain kind) = lexemes.Plain kind
lexeme_of f (said.Name name) = lexemes.Name (f name.0)
lexeme_of f (said.Integer constant) = lexemes.Integer constant
lexeme_of f (said.Character value) = lexemes.Character value
lexeme_of f (said.Pragma kind text) = lexemes.Pragma kind text

-- the same with its place
abbrev pub word_said : (ℕ → List ℕ) → Word → Spoken
word_said f word = record { said = lexeme_of f word.lexeme; at = word.at }
