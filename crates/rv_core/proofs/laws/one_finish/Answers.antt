use Rattle.rv_core.proofs.Finishing.{one-finish}
use Rattle.rv_core.proofs.laws.one_finish.Goals as goal

pub returns : goal.returns
returns c = one-finish
