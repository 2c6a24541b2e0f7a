use Rattle.std.proofs.Common.{◌≡◌, ◌+◌, drop, map}
use Rattle.low_ir.specs.Room.{frame_room, repeated}
use Rattle.low_ir.specs.View.{block_of, loop_of}
use Rattle.pass_strength_reduction.specs.Weighing.{block_worth}
use Rattle.pass_strength_reduction.proofs.weighing.function_worth.Given as goal

abbrev pub invariant-loop-block : goal.invariant-loop-block
invariant-loop-block l = record {
  number : l.number ≡ l.block-index;
  total : l.total + repeated (block_worth l.worths) (map loop_of l.function.loops.items) l.number (map block_of (drop l.block-index l.function.blocks.items)) ≡ frame_room + repeated (block_worth l.worths) (map loop_of l.function.loops.items) 0 (map block_of l.function.blocks.items);
}
