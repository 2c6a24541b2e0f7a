use Rattle.pass_copy_propagation_law.proofs.Formed.{formed}
use Rattle.pass_copy_propagation_law.proofs.laws.copies_are_formed.Goals as goal

pub returns : goal.returns
returns c = λ p q h. formed p q h
