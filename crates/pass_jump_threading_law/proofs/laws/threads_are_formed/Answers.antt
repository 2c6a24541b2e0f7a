use Rattle.pass_jump_threading_law.proofs.Formed.{formed}
use Rattle.pass_jump_threading_law.proofs.laws.threads_are_formed.Goals as goal

pub returns : goal.returns
returns c = λ p q h low. formed p q h low
