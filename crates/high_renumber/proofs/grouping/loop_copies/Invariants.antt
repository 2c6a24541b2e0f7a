use Rattle.std.proofs.Common.{◌≡◌, map, take}
use Rattle.std.specs.List.{range_with_len}
use Rattle.high_pass.specs.Listing.{loop_entry}
use Rattle.high_renumber.specs.Numbered.{loop_at}
use Rattle.high_renumber.proofs.grouping.loop_copies.Given as goal

abbrev pub invariant-loop-i : goal.invariant-loop-i
invariant-loop-i l = map loop_entry l.copies.items ≡ map (loop_at (take l.i l.origins)) (range_with_len 0 l.loops)
