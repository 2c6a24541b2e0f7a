use Rattle.pass_jump_threading_law.proofs.Formed.{low_within}
use Rattle.pass_jump_threading_law.proofs.Serving.{served}
use Rattle.pass_jump_threading_law.proofs.laws.threads_run.Goals as goal

pub returns : goal.returns
returns c = λ p q h low. served p q h (low_within p low)
