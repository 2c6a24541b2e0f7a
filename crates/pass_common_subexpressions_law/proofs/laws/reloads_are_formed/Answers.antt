use Rattle.pass_common_subexpressions_law.proofs.Formed.{formed}
use Rattle.pass_common_subexpressions_law.proofs.laws.reloads_are_formed.Goals as goal

pub returns : goal.returns
returns c = λ p q h. formed p q h
