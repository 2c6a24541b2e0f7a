use Rattle.std.proofs.Common.{◌≡◌, map}
use Rattle.high_pass.specs.Listing.{mark_entry}
use Rattle.high_parts.specs.Same.{same_marks}
use Rattle.high_parts.proofs.marks.same_marks.Given as goal

abbrev pub invariant-loop-mark : goal.invariant-loop-mark
invariant-loop-mark l = map mark_entry l.copies.items ≡ same_marks l.mark
