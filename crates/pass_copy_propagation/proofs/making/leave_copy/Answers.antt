use Rattle.std.proofs.Common.{map, refl}
use Rattle.low_ir.specs.Code.{Do, Register, Set}
use Rattle.low_ir.specs.View.{instr_of}
use Rattle.pass_copy_propagation.proofs.Going.{one_done}
use Rattle.pass_copy_propagation.proofs.making.leave_copy.Goals as goal

pub returns-then-leave_out : goal.returns-then-leave_out
returns-then-leave_out c = λ made.
    one_done (map instr_of c.args.code.now) c.args.at (Do (Set c.in-Some.copy.into (Register c.in-Some.copy.source))) c.args.known.now c.leave_out.new.known made made
    c.in-Some.ensures (λ rest. c.if-leave_out.ensures refl rest made)
