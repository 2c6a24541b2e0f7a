use Rattle.std.proofs.Common.{◌≡◌, ◌≤◌, ◌++◌, length, map}
use Rattle.parse_begun.specs.Depths.{state_depth}
use Rattle.parse_begun.specs.View.{Names, state_of}
use Rattle.parse_grammar.specs.Law.{run}
use Rattle.parse_grammar.specs.Machine.{Goes}
use Rattle.parse_words.specs.Lexemes.{word_said}
use Rattle.c_parser.proofs.read.read.Given as goal

abbrev pub invariant-loop-word : goal.invariant-loop-word
invariant-loop-word l = record {
  token : l.token ≡ length l.yielded;
  words : l.fn.words.items ≡ l.yielded ++ l.word-iterator.rest.items;
  led : (f : Names) → run (map (word_said f) l.yielded) ≡ Goes (state_of f l.state);
  shallow : state_depth l.state ≤ 256;
}
