use Rattle.std.proofs.Common.{◌≡◌, map}
use Rattle.std.specs.List.{range_with_len}
use Rattle.image_frames.specs.Needs.{needing}
use Rattle.image_saving.proofs.choosing.columns.Given as goal

abbrev pub invariant-loop-register : goal.invariant-loop-register
invariant-loop-register l = l.columns.items ≡ map (needing l.outlines) (range_with_len 0 l.register)
