use Rattle.std.proofs.Common.{drop, ◌+◌, ◌*◌}
use Rattle.call_graph.specs.Search.{Keeps, fresh}
use Rattle.call_graph.proofs.Greatest.{IsSoFar}
use Rattle.call_graph.proofs.visit.+search.Given as goal

abbrev pub decreases-visit : goal.decreases-visit
decreases-visit l = fresh l.marks.now * 2

abbrev pub decreases-visit_all : goal.decreases-visit_all
decreases-visit_all l = fresh l.marks.now * 2 + 1

abbrev pub invariant-visit_all-loop-g : goal.invariant-visit_all-loop-g
invariant-visit_all-loop-g l = IsSoFar l.graph l.f l.rank (drop l.g-index l.callees) × Keeps l.graph l.fn.marks l.marks
