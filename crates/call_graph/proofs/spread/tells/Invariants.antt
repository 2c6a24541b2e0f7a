use Rattle.std.proofs.Common.{drop}
use Rattle.call_graph.specs.Search.{IsRoot}
use Rattle.call_graph.proofs.spread.tells.Given as goal

abbrev pub invariant-loop-k : goal.invariant-loop-k
invariant-loop-k l = IsRoot l.graph l.f (drop l.k-index l.callees) l.seen
