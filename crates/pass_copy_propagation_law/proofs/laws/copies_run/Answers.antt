use Rattle.pass_copy_propagation_law.proofs.Serving.{served}
use Rattle.pass_copy_propagation_law.proofs.laws.copies_run.Goals as goal

pub returns : goal.returns
returns c = λ p q h. served p q h
