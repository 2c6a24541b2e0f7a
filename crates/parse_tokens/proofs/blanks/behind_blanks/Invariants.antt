use Rattle.std.proofs.Common.{◌≡◌, ◌≤◌, ◌-◌, drop, length}
use Rattle.c_tree.specs.Pragmas.{behind_blanks, Blanks}
use Rattle.parse_tokens.proofs.blanks.behind_blanks.Given as goal

abbrev pub invariant-loop-end : goal.invariant-loop-end
invariant-loop-end l = record {
  within : l.at ≤ length l.bytes;
  same : behind_blanks Blanks l.bytes ≡ behind_blanks Blanks (drop l.at l.bytes);
}

abbrev pub decreases-loop-end : goal.decreases-loop-end
decreases-loop-end l = length l.bytes - l.at
