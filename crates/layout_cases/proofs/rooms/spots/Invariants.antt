use Rattle.std.proofs.Common.{◌≡◌, ◌+◌, drop, map}
use Rattle.low_ir.specs.View.{block_of}
use Rattle.image_saving.specs.Walks.{spots_in}
use Rattle.layout_cases.proofs.rooms.spots.Given as goal

abbrev pub invariant-loop-block : goal.invariant-loop-block
invariant-loop-block l = l.sum + spots_in (map block_of (drop l.block-index l.blocks)) ≡ spots_in (map block_of l.blocks)
