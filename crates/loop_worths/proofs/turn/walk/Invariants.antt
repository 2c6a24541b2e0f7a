use Rattle.std.proofs.Common.{◌≡◌, drop, length, ◌-◌}
use Rattle.loop_walks.specs.Turns.{turned}
use Rattle.loop_worths.proofs.turn.walk.Given as goal

abbrev pub invariant-loop-k : goal.invariant-loop-k
invariant-loop-k l = l.ways ≡ turned l.low l.weights l.first l.fn.ways (drop (length l.steps - l.k) l.steps)
