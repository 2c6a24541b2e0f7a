use Rattle.code_flow_system.specs.Moves.{code_by}
use Rattle.code_flow.specs.Walks.{left}
use Rattle.code_flow.proofs.WalkLemmas.{Walks}
use Rattle.code_flow.proofs.walk.explore.Given as goal

abbrev pub invariant-loop-at : goal.invariant-loop-at
invariant-loop-at l = Walks (code_by l.image l.exits) l.image.entry l.walk

abbrev pub decreases-loop-at : goal.decreases-loop-at
decreases-loop-at l = left l.walk
