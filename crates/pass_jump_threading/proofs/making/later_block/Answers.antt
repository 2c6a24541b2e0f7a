use Rattle.std.proofs.Common.{ap, map, refl, ◌∙◌}
use Rattle.low_ir.specs.declared.low.Block.{Block}
use Rattle.low_ir.specs.View.{block_of, end_of, function_of, instr_of}
use Rattle.pass_jump_threading.proofs.Blocks.{end_same, knows_same, later_threaded}
use Rattle.pass_jump_threading.proofs.Knowing.{held_covers}
use Rattle.pass_jump_threading.proofs.making.later_block.Goals as goal

pub returns : goal.returns
returns c = λ all.
    let fn = function_of c.args.function.now in
    let p = c.args.plan.now in
    let held = p.held.items in
    let s = c.args.stay.now in
    let b = c.args.block.now in
    let out = c.pass_all.new.facts.items in
    let new : Block = record { mark = b.mark; code = c.in_ok-code.code; end = c.in-Some.end } in
    let knows =
    knows_same c.deref-2.result.now held c.in_ok-facts.facts.items s.facts.items out (map instr_of c.deref-3.result.now) (map instr_of b.code.items)
    c.deref-2.ensures.value (c.in_ok-facts.ensures ∙ c.deref.ensures.value) (ap (map instr_of) c.deref-3.ensures.value) (c.in_ok-pass_all.ensures c.if-not-branch.false) in
    let end =
    end_same fn p c.deref-4.result.now held c.deref-5.result.now out (end_of b.end) (end_of c.in-Some.end) c.deref-4.ensures.value c.deref-5.ensures.value (c.in-Some.ensures all)
    (held_covers held out) in
    later_threaded fn p c.args.at s (block_of b) (block_of new) out c.requires.later c.requires.there refl (c.in_ok-code.ensures ∙ ap (map instr_of) c.deref-6.ensures.value) knows end
