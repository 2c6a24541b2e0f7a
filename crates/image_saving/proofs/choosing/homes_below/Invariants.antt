use Rattle.std.proofs.Common.{◌≡◌, ◌≤◌, ◌++◌}
use Rattle.image_frames.specs.Registers.{holds, chosen}
use Rattle.image_saving.proofs.choosing.homes_below.Given as goal

abbrev pub invariant-loop-left : goal.invariant-loop-left
invariant-loop-left l = record {
  registers : l.registers.items ++ chosen (holds l.outline.housed) l.left ≡ chosen (holds l.outline.housed) l.fn.count;
  left : l.left ≤ l.fn.count;
}

abbrev pub decreases-loop-left : goal.decreases-loop-left
decreases-loop-left l = l.left
