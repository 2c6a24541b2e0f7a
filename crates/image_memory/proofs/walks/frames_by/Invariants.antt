use Rattle.std.proofs.Common.{◌≡◌, ◌++◌, drop, map}
use Rattle.low_ir.specs.View.{function_of}
use Rattle.low_ir.specs.Placings.{assignment_of}
use Rattle.image_memory.specs.Walks.{frames_by, end_by, HaveRoom}
use Rattle.image_memory.proofs.walks.frames_by.Given as goal

abbrev pub invariant-loop-number : goal.invariant-loop-number
invariant-loop-number l = record {
  frames : l.frames.items ++ frames_by (assignment_of l.code) l.outlines l.at l.number (map function_of (drop l.number l.code.low.functions.items)) ≡ frames_by (assignment_of l.code) l.outlines 0x2000_0000 0 (map function_of l.code.low.functions.items);
  end : end_by (assignment_of l.code) l.outlines l.at l.number (map function_of (drop l.number l.code.low.functions.items)) ≡ end_by (assignment_of l.code) l.outlines 0x2000_0000 0 (map function_of l.code.low.functions.items);
  room : HaveRoom (assignment_of l.code) l.outlines l.at l.number (map function_of (drop l.number l.code.low.functions.items));
}
