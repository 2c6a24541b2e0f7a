use Rattle.std.proofs.Common.{map}
use Rattle.low_ir.specs.View.{instr_of}
use Rattle.pass_copy_propagation.proofs.Going.{one_done, there_of}
use Rattle.pass_copy_propagation.proofs.making.put_elsewhere.Goals as goal

pub returns-then-branch : goal.returns-then-branch
returns-then-branch c =
    let code = c.args.code.now in
    let i = c.index-code-at.result in
    one_done (map instr_of code) c.args.at (instr_of i) c.args.known.now c.put_apart.new.known (map instr_of c.args.made.now.items) (map instr_of c.put_apart.new.made.items)
    (there_of instr_of code c.args.at i c.requires c.index-code-at.is) (c.in_ok-put_apart.ensures c.if-branch.true)
