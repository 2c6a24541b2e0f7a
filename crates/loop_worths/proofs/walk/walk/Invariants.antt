use Rattle.std.proofs.Common.{◌≡◌, drop, length, ◌-◌}
use Rattle.loop_walks.specs.Walks.{relaxed}
use Rattle.loop_worths.proofs.walk.walk.Given as goal

abbrev pub invariant-loop-k : goal.invariant-loop-k
invariant-loop-k l = l.worths ≡ relaxed l.weights l.fn.worths (drop (length l.steps - l.k) l.steps)
