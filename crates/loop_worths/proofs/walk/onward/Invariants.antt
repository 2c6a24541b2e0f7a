use Rattle.std.proofs.Common.{◌≡◌, drop, length, ◌-◌, ◌<◌, ◌^◌, unsigned_abs}
use Rattle.loop_walks.specs.Levels.{onward}
use Rattle.loop_worths.proofs.walk.onward.Given as goal

abbrev pub invariant-loop-k : goal.invariant-loop-k
invariant-loop-k l = (l.best ≡ onward l.low l.worths (drop (length l.steps - l.k) l.steps)) × (unsigned_abs l.best < 2 ^ 125)
