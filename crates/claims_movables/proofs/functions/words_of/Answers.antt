use Rattle.std.proofs.Common.{◌<◌, ◌^◌, ap, arith}
use Rattle.asm_items.specs.Placings.{blocks_size}
use Rattle.claims_lists.proofs.Rooms.{at_zero, end_from, size_from}
use Rattle.claims_movables.proofs.functions.words_of.Goals as goal

pub size_of_blocks-bytes-requires : goal.size_of_blocks-bytes-requires
size_of_blocks-bytes-requires c =
    let y = c.args.layout.now in
    let small = size_from y.bases.items 0 y.functions.items c.args.function c.requires.room in
    let same = ap blocks_size c.items_of.ensures in
    omega (arith, small, same)

pub words-requires : goal.words-requires
words-requires c =
    let y = c.args.layout.now in
    let below : c.base_of.result < 2 ^ 32 = omega arith in
    let small = end_from y.bases.items 0 y.functions.items c.args.function c.base_of.result (at_zero y.bases.items c.args.function c.base_of.result c.base_of.ensures) below c.requires.room in
    let same = ap blocks_size c.items_of.ensures in
    let size = c.size_of_blocks-bytes.ensures in
    omega (arith, small, same, size)
