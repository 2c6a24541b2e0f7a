use Rattle.std.proofs.Common.{◌≡◌, ◌+◌, drop}
use Rattle.loop_flow_counts.specs.Wraps.{wrapped}
use Rattle.loop_flow_counts.specs.Made.{total}
use Rattle.loop_flow_counts.proofs.count.total.Given as goal

abbrev pub invariant-loop-k : goal.invariant-loop-k
invariant-loop-k l = wrapped (l.all + total (drop l.k l.counts)) ≡ wrapped (total l.counts)
