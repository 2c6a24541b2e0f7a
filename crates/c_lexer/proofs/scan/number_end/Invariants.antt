use Rattle.std.proofs.Common.{ℕ, ◌<◌, ◌≤◌}
use Rattle.c_lexer.specs.Forms.{GoesOn}
use Rattle.c_lexer.proofs.scan.number_end.Given as goal

abbrev pub invariant-loop-end : goal.invariant-loop-end
invariant-loop-end l = (i : ℕ) → l.from ≤ i → i < l.end → GoesOn l.source i
