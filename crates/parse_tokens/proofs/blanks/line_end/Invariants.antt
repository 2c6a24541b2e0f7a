use Rattle.std.proofs.Common.{◌≡◌, drop}
use Rattle.c_tree.specs.Pragmas.{behind_blanks, Line}
use Rattle.parse_tokens.proofs.blanks.line_end.Given as goal

abbrev pub invariant-loop-at : goal.invariant-loop-at
invariant-loop-at l = behind_blanks Line (drop l.from l.bytes) ≡ behind_blanks Line (drop l.at l.bytes)
