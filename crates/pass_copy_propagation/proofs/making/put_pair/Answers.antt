use Rattle.std.proofs.Common.{map}
use Rattle.low_ir.specs.Code.{Do, Register, Set}
use Rattle.low_ir.specs.View.{instr_of}
use Rattle.pass_copy_propagation.proofs.Going.{there_of, two_done}
use Rattle.pass_copy_propagation.proofs.making.put_pair.Goals as goal

pub returns-then-branch : goal.returns-then-branch
returns-then-branch c =
    let code = c.args.code.now in
    let i = c.index-code-at.result in
    two_done (map instr_of code) c.args.at (instr_of i) (Do (Set c.in-Some.copy.into (Register c.in-Some.copy.source))) c.args.known.now c.put_delivered.new.known (map instr_of c.args.made.now.items) (map instr_of c.put_delivered.new.made.items)
    (there_of instr_of code c.args.at i c.requires c.index-code-at.is) c.in-Some.ensures (c.in_ok-put_delivered.ensures c.if-branch.true)
