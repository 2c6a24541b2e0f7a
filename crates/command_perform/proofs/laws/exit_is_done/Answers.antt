use Rattle.std.proofs.Common.{refl}
use Rattle.command_perform.proofs.Leaving.{exit_ends}
use Rattle.command_perform.proofs.laws.exit_is_done.Goals as goal

pub returns : goal.returns
returns c = λ asked old p. exit_ends asked old.files old refl p
