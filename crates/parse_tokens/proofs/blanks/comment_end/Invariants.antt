use Rattle.std.proofs.Common.{◌≡◌, ℕ, List, drop}
use Rattle.std.specs.Prelude.{if◌then◌else◌}
use Rattle.c_tree.specs.Pragmas.{behind_blanks, Block, Star}
use Rattle.parse_tokens.proofs.blanks.comment_end.Given as goal

abbrev pub invariant-loop-at : goal.invariant-loop-at
invariant-loop-at l = (comment : List ℕ) → behind_blanks (Block comment) (drop l.from l.bytes) ≡ behind_blanks (if l.star then Star comment else Block comment) (drop l.at l.bytes)
