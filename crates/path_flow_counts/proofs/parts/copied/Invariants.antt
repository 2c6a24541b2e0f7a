use Rattle.std.proofs.Common.{◌≡◌, ◌++◌, drop}
use Rattle.path_flow_counts.proofs.parts.copied.Given as goal

abbrev pub invariant-loop-i : goal.invariant-loop-i
invariant-loop-i l = l.copy.items ++ drop l.i l.numbers ≡ l.numbers
