use Rattle.call_graph.specs.Search.{IsRanking}
use Rattle.call_graph.proofs.ranking.rank_all.Given as goal

abbrev pub invariant-loop-f : goal.invariant-loop-f
invariant-loop-f l = IsRanking l.graph l.f l.marks l.ranks.items
