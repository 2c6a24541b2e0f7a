use Rattle.std.proofs.Common.{◌≡◌, map}
use Rattle.std.specs.List.{range_with_len}
use Rattle.high_pass.specs.Listing.{loop_entry}
use Rattle.high_again.specs.Same.{same_loop}
use Rattle.high_again.proofs.copies.same_loops.Given as goal

abbrev pub invariant-loop-id : goal.invariant-loop-id
invariant-loop-id l = map loop_entry l.copies.items ≡ map same_loop (range_with_len 0 l.id)
