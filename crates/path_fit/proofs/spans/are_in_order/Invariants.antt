use Rattle.std.proofs.Common.{drop}
use Rattle.path_fit.proofs.ApartLemmas.{OrderAlike}
use Rattle.path_fit.proofs.spans.are_in_order.Given as goal

abbrev pub invariant-loop-i : goal.invariant-loop-i
invariant-loop-i l = OrderAlike l.spans l.end (drop l.i l.spans)
