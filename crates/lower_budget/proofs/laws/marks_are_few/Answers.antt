use Rattle.lower_budget.proofs.Loops.{marks_few}
use Rattle.lower_budget.proofs.laws.marks_are_few.Goals as goal

pub returns : goal.returns
returns c = λ scope f h. marks_few scope f h
