use Rattle.pass_copy_propagation_law.proofs.Costs.{costs}
use Rattle.pass_copy_propagation_law.proofs.laws.copies_cost_no_more.Goals as goal

pub returns : goal.returns
returns c = λ p q h. costs p q h
