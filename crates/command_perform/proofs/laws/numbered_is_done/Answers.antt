use Rattle.std.proofs.Common.{refl}
use Rattle.command_perform.proofs.KeptNumbers.{numbers_are_kept}
use Rattle.command_perform.proofs.NumberedRuns.{numbered_ends}
use Rattle.command_perform.proofs.laws.numbered_is_done.Goals as goal

pub returns : goal.returns
returns c = λ asked old some one few. numbered_ends asked old.files old refl some few (numbers_are_kept asked.number one few)
