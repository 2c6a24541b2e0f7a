use Rattle.asm_code.proofs.Registers.{placed_there}
use Rattle.asm_code.proofs.laws.places_are_there.Goals as goal

pub returns : goal.returns
returns c = placed_there
