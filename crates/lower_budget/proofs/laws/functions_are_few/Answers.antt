use Rattle.lower_budget.proofs.Programs.{functions_few}
use Rattle.lower_budget.proofs.laws.functions_are_few.Goals as goal

pub returns : goal.returns
returns c = λ p high. functions_few p high
