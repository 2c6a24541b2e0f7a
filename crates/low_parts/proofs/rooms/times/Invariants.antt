use Rattle.std.proofs.Common.{◌≡◌, ◌≤◌, drop, length, map}
use Rattle.low_ir.specs.Room.{times}
use Rattle.low_ir.specs.View.{loop_of}
use Rattle.low_parts.proofs.rooms.times.Given as goal

abbrev pub invariant-loop-at : goal.invariant-loop-at
invariant-loop-at l = record {
  within : l.at ≤ length l.loops;
  product : l.product ≡ times (map loop_of (drop l.at l.loops)) l.block;
}

abbrev pub decreases-loop-at : goal.decreases-loop-at
decreases-loop-at l = l.at
