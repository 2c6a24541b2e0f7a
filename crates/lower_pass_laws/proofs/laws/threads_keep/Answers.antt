use Rattle.lower_pass_laws.proofs.ThreadedKeeping.{keeps}
use Rattle.lower_pass_laws.proofs.laws.threads_keep.Goals as goal

pub returns : goal.returns
returns c = keeps
