use Rattle.std.proofs.Common.{◌≡◌, ◌≤◌, ◌++◌}
use Rattle.image_frames.specs.Registers.{chosen}
use Rattle.image_saving.specs.Saved.{is_saved}
use Rattle.image_saving.proofs.choosing.saved_below.Given as goal

abbrev pub invariant-loop-left : goal.invariant-loop-left
invariant-loop-left l = record {
  registers : l.registers.items ++ chosen (is_saved l.outlines l.fn.function) l.left ≡ chosen (is_saved l.outlines l.fn.function) l.fn.count;
  left : l.left ≤ l.fn.count;
}

abbrev pub decreases-loop-left : goal.decreases-loop-left
decreases-loop-left l = l.left
