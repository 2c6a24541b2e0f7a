use Rattle.std.proofs.Common.{◌≡◌, map, take}
use Rattle.std.specs.List.{range_with_len}
use Rattle.high_pass.specs.Listing.{mark_entry}
use Rattle.high_renumber.specs.Numbered.{mark_at}
use Rattle.high_renumber.proofs.grouping.mark_copies.Given as goal

abbrev pub invariant-loop-i : goal.invariant-loop-i
invariant-loop-i l = map mark_entry l.copies.items ≡ map (mark_at (take l.i l.origins)) (range_with_len 0 l.marks)
