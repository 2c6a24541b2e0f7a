-- Words that lead to a state.
use Rattle.std.specs.Prelude.{◌≡◌, List, length, map}
use Rattle.c_tree.specs.Names.{name_of}
use Rattle.c_tree.specs.Spelling.{Spoken}
use Rattle.parse_begun.specs.declared.begun.State as states
use Rattle.parse_begun.specs.View.{Names, state_of}
use Rattle.parse_grammar.specs.Begun.{Bytes}
use Rattle.parse_grammar.specs.Law.{run}
use Rattle.parse_grammar.specs.Machine.{Goes}
use Rattle.parse_words.specs.declared.lexeme.Word.{Word}
use Rattle.parse_words.specs.Lexemes.{word_said}
use Rattle.parse_words.specs.Words.{AreNumbered}

-- whatever the names are, these words lead to the state; with these names they say what the tokens say
pub record Led (state : states.State) (names : List Bytes) (tokens : List Spoken) : Type 0 where
  pub words : List Word
  pub leads : (f : Names) → run (map (word_said f) words) ≡ Goes (state_of f state)
  pub said : map (word_said (name_of names)) words ≡ tokens
  pub numbered : AreNumbered (length names) words
