use Rattle.pass_strength_reduction_law.proofs.Serving.{served}
use Rattle.pass_strength_reduction_law.proofs.laws.steps_run.Goals as goal

pub returns : goal.returns
returns c = λ p q h. served p q h
