use Rattle.std.proofs.Common.{refl}
use Rattle.command_perform.proofs.CheckRuns.{accept_ends}
use Rattle.command_perform.proofs.laws.accepted_is_done.Goals as goal

pub returns : goal.returns
returns c = λ asked old p. accept_ends asked old.files old refl p
