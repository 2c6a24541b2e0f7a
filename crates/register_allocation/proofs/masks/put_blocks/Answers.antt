use Rattle.std.proofs.Common.{◌≡◌, ◌+◌, List, ◌∷◌, ◌++◌, ap, drop, length, map, subst, sym, ◌∙◌}
use Rattle.std.proofs.lemmas.List.{drop_more}
use Rattle.low_ir.specs.declared.instruction.Instr.{Instr}
use Rattle.low_ir.specs.declared.low.Block.{Block}
use Rattle.low_ir.specs.View.{block_of, instr_of}
use Rattle.register_allocation.specs.Masks.{blocks_masks, code_masks, code_swept}
use Rattle.register_allocation.specs.Views.{sweep_of}
use Rattle.register_allocation.proofs.Putting.{block_put}
use Rattle.register_allocation.proofs.masks.put_blocks.Goals as goal

pub loop-block-preserved : goal.loop-block-preserved
loop-block-preserved c =
    let places = c.args.placed.now.places.now in
    let order = c.args.placed.now.order.now in
    let blocks = c.args.blocks.now in
    let i = c.loop-block.block-index in
    let b = c.block-item.result in
    let old = c.loop-block.kept.items in
    let new = c.put_code.new.kept.items in
    let w = sweep_of order c.loop-block.sweep in
    let v = sweep_of order c.put_code.new.sweep in
    let cut = drop_more blocks i b c.loop-block-test.true ∙ ap (λ (x : Block). x ∷ drop (i + 1) blocks) (sym c.block-item.is) in
    let put = subst (λ (is : List Instr). new ≡ old ++ code_masks places (length old) w (map instr_of is)) c.deref.ensures.value c.in_ok-put_code.ensures.kept in
    let swept = subst (λ (is : List Instr). v ≡ code_swept places (length old) w (map instr_of is)) c.deref.ensures.value c.in_ok-put_code.ensures.sweep in
    block_put places old new w v (block_of b) (map block_of (drop (i + 1) blocks)) put swept
    ∙ (ap (λ (bs : List Block). old ++ blocks_masks places (length old) w (map block_of bs)) (sym cut) ∙ c.loop-block.invariant)
