use Rattle.lower_nesting.proofs.Loops.{loops_inside}
use Rattle.lower_nesting.proofs.laws.loops_stand_inside.Goals as goal

pub returns : goal.returns
returns c = λ scope s exits n t k. loops_inside scope s exits n t k
