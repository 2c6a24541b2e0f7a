use Rattle.std.proofs.Common.{◌<◌, length, ap, subst, arith}
use Rattle.asm_items.specs.Placings.{blocks_size}
use Rattle.claims_regions.proofs.Based.{room_at}
use Rattle.claims_regions.proofs.walks.put_function.Goals as goal

pub put_blocks-requires : goal.put_blocks-requires
put_blocks-requires c =
    let y = c.args.layout.now in
    let some : 0 < length c.items_of-blocks.result.now = omega (arith, c.if-blocks-eq0.false) in
    let there = subst (λ bs. 0 < length bs) c.items_of-blocks.ensures some in
    let room = room_at y.bases.items y.functions.items c.args.function c.requires.room there in
    let base = c.base_of-at.ensures in
    let size = ap blocks_size c.items_of-blocks.ensures in
    omega (arith, room, base, size)
