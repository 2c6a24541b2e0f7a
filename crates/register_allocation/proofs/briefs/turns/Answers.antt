use Rattle.std.proofs.Common.{◌≡◌, ◌+◌, ◌<◌, List, ◌∷◌, ◌++◌, length, get_or, ap, drop, map, subst, sym, ◌∙◌}
use Rattle.std.proofs.lemmas.List.{drop_more}
use Rattle.low_ir.specs.declared.instruction.Instr.{Instr}
use Rattle.low_ir.specs.declared.low.Block.{Block}
use Rattle.low_ir.specs.View.{block_of, instr_of}
use Rattle.register_allocation.specs.Briefs.{blocks_turns, code_turns}
use Rattle.register_allocation.proofs.Turning.{turns_put}
use Rattle.register_allocation.proofs.briefs.turns.Goals as goal

pub loop-block-preserved : goal.loop-block-preserved
loop-block-preserved c =
    let blocks = c.args.function.now.blocks.items in
    let i = c.loop-block.block-index in
    let b = c.block-item.result in
    let old = c.loop-block.turns.items in
    let new = c.put_code.new.turns.items in
    let within = subst (λ (bs : List Block). i < length bs) c.deref-block-items.ensures.value c.loop-block-test.true in
    let is = subst (λ (bs : List Block). b ≡ get_or bs i b) c.deref-block-items.ensures.value c.block-item.is in
    let cut = drop_more blocks i b within ∙ ap (λ (x : Block). x ∷ drop (i + 1) blocks) (sym is) in
    let put = subst (λ (is : List Instr). new ≡ old ++ code_turns (map instr_of is)) c.deref.ensures.value c.in_ok-put_code.ensures in
    turns_put old new (block_of b) (map block_of (drop (i + 1) blocks)) (map block_of blocks) put
    (ap (λ (bs : List Block). old ++ blocks_turns (map block_of bs)) (sym cut) ∙ c.loop-block.invariant)
