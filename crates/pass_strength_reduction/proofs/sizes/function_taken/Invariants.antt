use Rattle.std.proofs.Common.{◌≡◌, ◌+◌, drop, map}
use Rattle.std.specs.Prelude.{sum_by}
use Rattle.low_ir.specs.Room.{block_room}
use Rattle.low_ir.specs.View.{block_of}
use Rattle.pass_strength_reduction.proofs.sizes.function_taken.Given as goal

abbrev pub invariant-loop-block : goal.invariant-loop-block
invariant-loop-block l = l.total + sum_by block_room (map block_of (drop l.block-index l.function.blocks.items)) ≡ l.entered + sum_by block_room (map block_of l.function.blocks.items)
