use Rattle.register_allocation.specs.Briefs.{AreOwnBefore}
use Rattle.register_allocation.proofs.briefs.are_own_before.Given as goal

abbrev pub invariant-loop-at : goal.invariant-loop-at
invariant-loop-at l = AreOwnBefore l.turns l.each l.at
