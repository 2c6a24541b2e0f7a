use Rattle.std.proofs.Common.{◌≡◌, [], map}
use Rattle.std.specs.List.{range_with_len}
use Rattle.high_pass.specs.Listing.{mark_entry}
use Rattle.high_renumber.specs.Numbered.{mark_at}
use Rattle.high_renumber.proofs.grouping.no_marks.Given as goal

abbrev pub invariant-loop-old : goal.invariant-loop-old
invariant-loop-old l = map mark_entry l.copies.items ≡ map (mark_at []) (range_with_len 0 l.old)
