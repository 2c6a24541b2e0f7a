use Rattle.std.proofs.Common.{◌≡◌, map, take}
use Rattle.std.specs.List.{flat_map}
use Rattle.high_pass.specs.Composing.{copies_by}
use Rattle.high_pass.specs.Listing.{loop_entry}
use Rattle.high_pass.proofs.compose.copies_of_loops.Given as goal

abbrev pub invariant-loop-copy : goal.invariant-loop-copy
invariant-loop-copy l = l.all.items ≡ flat_map (copies_by (map loop_entry l.step)) (take l.copy-index l.loops)
