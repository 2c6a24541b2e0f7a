use Rattle.std.proofs.Common.{◌≡◌, ◌≤◌, length}
use Rattle.image_frames.specs.Needs.{spread}
use Rattle.image_saving.proofs.spreading.spread.Given as goal

abbrev pub invariant-loop-left : goal.invariant-loop-left
invariant-loop-left l = record {
  needs : spread l.outlines l.fn.register l.left l.needs ≡ spread l.outlines l.fn.register l.fn.functions l.fn.needs;
  left : l.left ≤ length l.outlines;
}

abbrev pub decreases-loop-left : goal.decreases-loop-left
decreases-loop-left l = l.left
