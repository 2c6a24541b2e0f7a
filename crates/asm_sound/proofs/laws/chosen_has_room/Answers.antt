use Rattle.asm_sound.proofs.SizeLemmas.{chosen_has_room}
use Rattle.asm_sound.proofs.laws.chosen_has_room.Goals as goal

pub returns : goal.returns
returns c = chosen_has_room
