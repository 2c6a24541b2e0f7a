use Rattle.asm_sound.proofs.SizeLemmas.{longest_has_room}
use Rattle.asm_sound.proofs.laws.longest_has_room.Goals as goal

pub returns : goal.returns
returns c = longest_has_room
