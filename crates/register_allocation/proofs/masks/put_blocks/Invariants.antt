use Rattle.std.proofs.Common.{◌≡◌, ◌++◌, drop, length, map}
use Rattle.low_ir.specs.View.{block_of}
use Rattle.register_allocation.specs.Masks.{blocks_masks}
use Rattle.register_allocation.specs.Views.{sweep_of}
use Rattle.register_allocation.proofs.masks.put_blocks.Given as goal

abbrev pub invariant-loop-block : goal.invariant-loop-block
invariant-loop-block l =
    l.kept.items ++ blocks_masks l.placed.places.now (length l.kept.items) (sweep_of l.placed.order.now l.sweep) (map block_of (drop l.block-index l.blocks))
    ≡ l.initial.kept.items ++ blocks_masks l.placed.places.now (length l.initial.kept.items) (sweep_of l.placed.order.now l.initial.sweep) (map block_of l.blocks)
