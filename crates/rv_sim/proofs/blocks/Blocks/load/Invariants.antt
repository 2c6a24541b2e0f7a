use Rattle.std.proofs.Common.{◌≡◌, drop, ◌++◌}
use Rattle.rv_core.specs.Images.{AreSegments}
use Rattle.rv_core.specs.Memory.{loaded}
use Rattle.rv_sim.proofs.blocks.Blocks.load.Given as goal

-- the segments so far are loaded
abbrev pub invariant-loop-segment : goal.invariant-loop-segment
invariant-loop-segment l = record {
  filled : l.blocks.items ++ loaded (drop l.segment-index l.segments) ≡ loaded l.segments;
  left : AreSegments (drop l.segment-index l.segments);
}
