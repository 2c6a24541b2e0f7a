use Rattle.std.proofs.Common.{drop, ◌<◌}
use Rattle.call_graph.specs.Search.{Spreads, unseen}
use Rattle.call_graph.proofs.spread.+spread.Given as goal

abbrev pub decreases-spread : goal.decreases-spread
decreases-spread l = unseen l.seen.now

abbrev pub invariant-loop-k : goal.invariant-loop-k
invariant-loop-k l = Spreads l.graph l.g (drop l.k-index l.callees) l.fn.seen l.seen × (unseen l.seen < unseen l.fn.seen)
