use Rattle.std.proofs.Common.{refl}
use Rattle.command_perform.proofs.CheckRuns.{summary_ends}
use Rattle.command_perform.proofs.laws.summary_is_done.Goals as goal

pub returns : goal.returns
returns c = λ asked old p. summary_ends asked old.files old refl p
