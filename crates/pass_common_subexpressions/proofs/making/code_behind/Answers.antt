use Rattle.std.proofs.Common.{map}
use Rattle.low_ir.specs.View.{claim_of, instr_of}
use Rattle.pass_common_subexpressions.proofs.Going.{code_begun, code_done, code_step}
use Rattle.pass_common_subexpressions.proofs.making.code_behind.Goals as goal

pub loop-instr-init : goal.loop-instr-init
loop-instr-init c = code_begun (map claim_of c.args.claims.now) c.args.known.now (map instr_of c.args.code.now) c.new-made.result.items c.new-made.ensures.items

pub loop-instr-preserved : goal.loop-instr-preserved
loop-instr-preserved c =
    code_step (map claim_of c.args.claims.now) c.args.known.now c.loop-instr.known c.pass.new.self (map instr_of c.args.code.now) c.args.code.now c.loop-instr.instr-index c.instr-item.result c.in_ok-instr_of.field-0 c.loop-instr.made.items c.push.new.self.items
    c.loop-instr-test.true c.instr-item.is c.loop-instr.invariant c.in_ok-instr_of.ensures c.pass.ensures c.in_ok-push.ensures.items

pub returns : goal.returns
returns c = code_done (map claim_of c.args.claims.now) c.args.known.now c.loop-instr.known (map instr_of c.args.code.now) c.args.code.now c.loop-instr.instr-index c.loop-instr.made.items c.loop-instr-test.false c.loop-instr.invariant
