use Rattle.std.proofs.Common.{◌≡◌, ◌++◌, drop}
use Rattle.low_parts.proofs.same.same_loops.Given as goal

abbrev pub invariant-loop-each : goal.invariant-loop-each
invariant-loop-each l = l.same.items ++ drop l.each-index l.loops ≡ l.loops
