use Rattle.asm_program.proofs.RoomLemmas.{instr_total, end_total}
use Rattle.asm_program.proofs.items_have_room.Goals as goal

pub returns-clause-instructions : goal.returns-clause-instructions
returns-clause-instructions c = λ m p f i xs h. instr_total m p f i xs h

pub returns-clause-ends : goal.returns-clause-ends
returns-clause-ends c = λ m p f b end. end_total m p f b end
