use Rattle.std.proofs.Common.{arith, map}
use Rattle.low_ir.specs.View.{claim_of, instr_of}
use Rattle.pass_common_subexpressions.proofs.Table.{forgets_all, forgets_next, forgets_none}
use Rattle.pass_common_subexpressions.proofs.known.forget.Goals as goal

pub loop-at-init : goal.loop-at-init
loop-at-init c = forgets_none (map claim_of c.args.claims.now) (instr_of c.args.instr.now) c.args.facts.now.items

pub loop-at-preserved : goal.loop-at-preserved
loop-at-preserved c =
    let t = c.loop-at-test.true in
    let e = c.len-at-end.ensures in
    let o = c.args.facts.now.ok.0 in
    let l = c.loop-at.invariant.long in
    forgets_next (map claim_of c.args.claims.now) (instr_of c.args.instr.now) c.args.facts.now.items c.loop-at.facts.items c.set_fact.new.facts.items c.loop-at.at c.index.result.now c.left-slot.result
    (omega arith) c.index.ensures c.left-slot.ensures c.set_fact.ensures c.loop-at.invariant

pub returns : goal.returns
returns c =
    let t = c.loop-at-test.false in
    let e = c.len-at-end.ensures in
    let o = c.args.facts.now.ok.0 in
    let l = c.loop-at.invariant.long in
    forgets_all (map claim_of c.args.claims.now) (instr_of c.args.instr.now) c.args.facts.now.items c.loop-at.facts.items c.loop-at.at (omega arith) c.loop-at.invariant
