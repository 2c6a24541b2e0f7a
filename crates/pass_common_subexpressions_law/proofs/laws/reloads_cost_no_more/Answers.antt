use Rattle.pass_common_subexpressions_law.proofs.Costs.{costs}
use Rattle.pass_common_subexpressions_law.proofs.laws.reloads_cost_no_more.Goals as goal

pub returns : goal.returns
returns c = λ p q h. costs p q h
