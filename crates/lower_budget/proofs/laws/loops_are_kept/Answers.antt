use Rattle.lower_budget.proofs.Loops.{loops_kept}
use Rattle.lower_budget.proofs.laws.loops_are_kept.Goals as goal

pub returns : goal.returns
returns c = λ scope f h. loops_kept scope f h
