use Rattle.pass_jump_threading_law.proofs.Costs.{costs}
use Rattle.pass_jump_threading_law.proofs.Formed.{low_within}
use Rattle.pass_jump_threading_law.proofs.laws.threads_cost_no_more.Goals as goal

pub returns : goal.returns
returns c = λ p q h low. costs p q h (low_within p low)
