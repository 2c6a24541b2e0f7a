use Rattle.std.proofs.Common.{drop, map, subst, ◌+◌}
use Rattle.low_ir.specs.View.{instr_of}
use Rattle.pass_jump_threading.specs.Facts.{known_in}
use Rattle.pass_jump_threading.proofs.Knowing.{KnowsSoFar, knows_more}
use Rattle.pass_jump_threading.proofs.Lists.{map_drop_here}
use Rattle.pass_jump_threading.proofs.facts.pass_all.Goals as goal

pub loop-instr-preserved : goal.loop-instr-preserved
loop-instr-preserved c =
    let held = c.args.held.now in
    let before = known_in held c.args.facts.now.items in
    let now = known_in held c.loop-instr.facts.items in
    let code = c.args.code.now in
    let n = c.loop-instr.instr-index in
    let instr = c.instr-item.result in
    let here = map_drop_here instr_of code n instr instr c.loop-instr-test.true c.instr-item.is in
    knows_more before now (known_in held c.pass.new.facts.items) (map instr_of code) (map instr_of (drop (n + 1) code)) (instr_of instr)
    (subst (KnowsSoFar before (map instr_of code) now) here c.loop-instr.invariant) (c.in_ok-pass.ensures c.if-not-branch.false)
