use Rattle.pass_common_subexpressions_law.proofs.Serving.{served}
use Rattle.pass_common_subexpressions_law.proofs.laws.reloads_run.Goals as goal

pub returns : goal.returns
returns c = λ p q h. served p q h
