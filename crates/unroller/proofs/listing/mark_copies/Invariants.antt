use Rattle.std.proofs.Common.{◌≡◌, drop, map}
use Rattle.std.specs.List.{range_with_len}
use Rattle.high_pass.specs.Listing.{mark_entry}
use Rattle.high_unrolled.specs.Programs.{copies_of}
use Rattle.unroller.specs.Sorting.{with_copies}
use Rattle.unroller.proofs.listing.mark_copies.Given as goal

abbrev pub invariant-loop-each : goal.invariant-loop-each
invariant-loop-each l =
    with_copies 0 (map mark_entry l.copies.items) l.number (drop l.each-index l.made) ≡ map (copies_of l.marks l.made) (range_with_len 0 l.marks)
