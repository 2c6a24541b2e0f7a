use Rattle.std.proofs.Common.{map, refl}
use Rattle.low_ir.specs.View.{instr_of}
use Rattle.pass_copy_propagation.proofs.Going.{one_done, there_of}
use Rattle.pass_copy_propagation.proofs.making.leave_unread.Goals as goal

pub returns-then-omit : goal.returns-then-omit
returns-then-omit c = λ made.
    let code = c.args.code.now in
    let i = c.index-code-at.result in
    one_done (map instr_of code) c.args.at (instr_of i) c.args.known.now c.omit.new.known made made
    (there_of instr_of code c.args.at i c.requires c.index-code-at.is) (λ rest. c.if-omit.ensures refl rest made)
