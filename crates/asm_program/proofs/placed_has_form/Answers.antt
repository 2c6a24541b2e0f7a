use Rattle.asm_program.proofs.FormedLemmas.{program}
use Rattle.asm_program.proofs.placed_has_form.Goals as goal

pub returns : goal.returns
returns c = program
