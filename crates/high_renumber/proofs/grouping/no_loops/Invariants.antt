use Rattle.std.proofs.Common.{◌≡◌, [], map}
use Rattle.std.specs.List.{range_with_len}
use Rattle.high_pass.specs.Listing.{loop_entry}
use Rattle.high_renumber.specs.Numbered.{loop_at}
use Rattle.high_renumber.proofs.grouping.no_loops.Given as goal

abbrev pub invariant-loop-old : goal.invariant-loop-old
invariant-loop-old l = map loop_entry l.copies.items ≡ map (loop_at []) (range_with_len 0 l.old)
