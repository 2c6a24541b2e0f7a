use Rattle.pass_strength_reduction_law.proofs.Formed.{formed}
use Rattle.pass_strength_reduction_law.proofs.laws.steps_are_formed.Goals as goal

pub returns : goal.returns
returns c = λ p q h. formed p q h
