use Rattle.path_walks.proofs.DealLemmas.{Deals}
use Rattle.path_walks.proofs.deal.deal.Given as goal

abbrev pub invariant-loop-i : goal.invariant-loop-i
invariant-loop-i l = Deals l.moves l.fn.span l.shapes l.fn.pairs l.found l.pairs l.i l.used
