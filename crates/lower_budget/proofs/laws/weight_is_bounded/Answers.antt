use Rattle.lower_budget.proofs.Weights.{weight_less}
use Rattle.lower_budget.proofs.laws.weight_is_bounded.Goals as goal

pub returns : goal.returns
returns c = λ p high gs spared. weight_less p high gs spared
