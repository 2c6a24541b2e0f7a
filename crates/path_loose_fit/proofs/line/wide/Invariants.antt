use Rattle.std.proofs.Common.{◌≡◌, length}
use Rattle.path_loose_fit.proofs.line.wide.Given as goal

abbrev pub invariant-loop-i : goal.invariant-loop-i
invariant-loop-i l = length l.wide.items ≡ l.i
