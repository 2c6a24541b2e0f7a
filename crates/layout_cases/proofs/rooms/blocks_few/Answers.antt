use Rattle.std.proofs.Common.{ap, arith, length}
use Rattle.asm_items.specs.Placings.{blocks_size}
use Rattle.asm_forms.specs.Shorter.{blocks_longest}
use Rattle.asm_writing.proofs.WordLemmas.{drop-at}
use Rattle.layout_cases.proofs.Rooming.{items_few}
use Rattle.layout_cases.proofs.rooms.blocks_few.Goals as goal

pub loop-block-preserved : goal.loop-block-preserved
loop-block-preserved c =
    let k = c.loop-block.block-index in
    let b = c.block-item.result in
    let split = ap (λ l. blocks_size (blocks_longest l)) (drop-at c.args.blocks.now k b c.loop-block-test.true c.block-item.is) in
    let few = items_few b in
    let long = ap length c.as_slice-items.ensures in
    let h = c.loop-block.invariant in
    omega (arith, split, few, long, h)
