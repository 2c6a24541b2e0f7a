use Rattle.asm_program.proofs.ItemLemmas.{latches_jump}
use Rattle.asm_program.proofs.latches_jump.Goals as goal

pub returns : goal.returns
returns c = λ m p ok f k has. latches_jump m p ok f k has
