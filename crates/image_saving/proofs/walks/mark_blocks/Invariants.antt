use Rattle.std.proofs.Common.{◌≡◌, drop, map}
use Rattle.low_ir.specs.View.{block_of}
use Rattle.low_ir.specs.Placings.{placings_of}
use Rattle.image_saving.specs.Walks.{blocks_marked}
use Rattle.image_saving.proofs.walks.mark_blocks.Given as goal

abbrev pub invariant-loop-block : goal.invariant-loop-block
invariant-loop-block l = blocks_marked (placings_of l.code) l.fn.number l.parameters l.table (map block_of (drop l.block-index l.blocks)) ≡ blocks_marked (placings_of l.code) l.fn.number l.parameters l.fn.table (map block_of l.blocks)
