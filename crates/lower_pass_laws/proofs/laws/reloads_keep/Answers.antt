use Rattle.lower_pass_laws.proofs.ReloadedKeeping.{keeps}
use Rattle.lower_pass_laws.proofs.laws.reloads_keep.Goals as goal

pub returns : goal.returns
returns c = keeps
