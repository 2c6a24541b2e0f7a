use Rattle.asm_sound.proofs.Programs.{program_sound}
use Rattle.asm_sound.proofs.laws.items_are_sound.Goals as goal

pub returns : goal.returns
returns c = program_sound
