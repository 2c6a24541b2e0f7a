use Rattle.std.proofs.Common.{[], ap, ◌∙◌, arith}
use Rattle.std.specs.Prelude.{slice_index, slice_index_or}
use Rattle.asm_items.specs.Items.{total}
use Rattle.claims_lists.proofs.Rooms.{block_room}
use Rattle.claims_lists.proofs.laying.last_of.Goals as goal

pub bytes_of-bytes-requires : goal.bytes_of-bytes-requires
bytes_of-bytes-requires c =
    let y = c.args.layout.now in
    let f = c.args.function in
    let b = c.args.block in
    let small = block_room y f b c.requires in
    let same = ap total (c.items_at.ensures ∙ ap (λ bs. slice_index_or bs b []) c.items_of.ensures) in
    omega (arith, small, same)

pub overflow_add-start : goal.overflow_add-start
overflow_add-start c =
    let y = c.args.layout.now in
    let f = c.args.function in
    let b = c.args.block in
    let small = block_room y f b c.requires in
    let same = ap total (c.items_at.ensures ∙ ap (λ bs. slice_index_or bs b []) c.items_of.ensures) in
    let start = c.start_at-start.ensures ∙ ap (λ t. slice_index t b) c.starts_of.ensures in
    let bytes = c.bytes_of-bytes.ensures in
    omega (arith, small, same, start, bytes)
