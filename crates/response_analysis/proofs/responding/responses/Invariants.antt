use Rattle.response_analysis.proofs.Found.{AreFound}
use Rattle.response_analysis.proofs.responding.responses.Given as goal

abbrev pub invariant-loop-i : goal.invariant-loop-i
invariant-loop-i l = AreFound l.tasks l.i l.found.items
