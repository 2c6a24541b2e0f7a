use Rattle.lower_budget.proofs.Programs.{registers_few}
use Rattle.lower_budget.proofs.laws.registers_are_few.Goals as goal

pub returns : goal.returns
returns c = λ scope f h. registers_few scope f h
