use Rattle.asm_program.proofs.Promises.{promised}
use Rattle.asm_program.proofs.items_are_promised.Goals as goal

pub returns : goal.returns
returns c = promised
