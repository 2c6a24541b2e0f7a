use Rattle.std.proofs.Common.{[], ap, map, refl, subst, ◌∙◌}
use Rattle.low_ir.specs.declared.low.Block.{Block}
use Rattle.low_ir.specs.View.{block_of, end_of, function_of, instr_of}
use Rattle.pass_jump_threading.specs.Facts.{Covers, known_in}
use Rattle.pass_jump_threading.proofs.Blocks.{end_same, first_threaded, knows_same}
use Rattle.pass_jump_threading.proofs.making.first_block.Goals as goal

pub returns : goal.returns
returns c = λ all.
    let fn = function_of c.args.function.now in
    let p = c.args.plan.now in
    let b = c.args.block.now in
    let out = c.pass_all.new.facts.items in
    let new : Block = record { mark = b.mark; code = c.in_ok-code.code; end = c.in-Some.end } in
    let knows =
    knows_same c.deref.result.now [] c.new-facts.result.items [] out (map instr_of c.deref-2.result.now) (map instr_of b.code.items)
    (c.deref.ensures.value ∙ c.new-nothing.ensures.items) c.new-facts.ensures.items (ap (map instr_of) c.deref-2.ensures.value) (c.in_ok-pass_all.ensures c.if-not-branch.false) in
    let covers =
    subst (λ held. Covers held (known_in [] out)) c.deref-3.ensures.value
    (subst (λ fs. Covers c.deref-3.result.now (known_in [] fs)) c.deref-4.ensures.value (c.are_held.ensures c.if-not-are_held.false)) in
    let end =
    end_same fn p c.deref-5.result.now [] c.deref-6.result.now out (end_of b.end) (end_of c.in-Some.end)
    (c.deref-5.ensures.value ∙ c.new-nothing.ensures.items) c.deref-6.ensures.value (c.in-Some.ensures all) covers in
    first_threaded fn p (block_of b) (block_of new) out refl (c.in_ok-code.ensures ∙ ap (map instr_of) c.deref-7.ensures.value) knows end
