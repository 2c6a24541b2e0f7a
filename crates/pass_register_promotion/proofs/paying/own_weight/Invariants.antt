use Rattle.std.proofs.Common.{◌≡◌, ◌+◌, drop, map}
use Rattle.low_ir.specs.Room.{block_room, repeated}
use Rattle.low_ir.specs.View.{block_of, loop_of}
use Rattle.pass_register_promotion.proofs.paying.own_weight.Given as goal

abbrev pub invariant-loop-block : goal.invariant-loop-block
invariant-loop-block l = record {
  number : l.number ≡ l.block-index;
  total : l.total + repeated block_room (map loop_of l.function.loops.items) l.number (map block_of (drop l.block-index l.function.blocks.items)) ≡ repeated block_room (map loop_of l.function.loops.items) 0 (map block_of l.function.blocks.items);
}
