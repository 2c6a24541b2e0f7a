use Rattle.lower_budget.proofs.Reaches.{reach_less}
use Rattle.lower_budget.proofs.laws.reach_is_bounded.Goals as goal

pub returns : goal.returns
returns c = λ p high mark. reach_less p high mark
