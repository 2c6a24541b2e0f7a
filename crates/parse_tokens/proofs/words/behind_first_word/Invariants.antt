use Rattle.std.proofs.Common.{◌≡◌, false, drop}
use Rattle.c_tree.specs.Pragmas.{behind_first_word}
use Rattle.parse_tokens.proofs.words.behind_first_word.Given as goal

abbrev pub invariant-loop-at : goal.invariant-loop-at
invariant-loop-at l = behind_first_word false l.text ≡ behind_first_word l.begun (drop l.at l.text)
