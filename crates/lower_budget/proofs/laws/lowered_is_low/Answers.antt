use Rattle.lower_budget.proofs.FormedPrograms.{is_low}
use Rattle.lower_budget.proofs.laws.lowered_is_low.Goals as goal

pub returns : goal.returns
returns c = λ p high. is_low p high
