use Rattle.std.proofs.Common.{◌≡◌, drop}
use Rattle.c_tree.specs.Pragmas.{first_word}
use Rattle.parse_tokens.proofs.words.first_word_start.Given as goal

abbrev pub invariant-loop-i : goal.invariant-loop-i
invariant-loop-i l = first_word l.text ≡ first_word (drop l.i l.text)
