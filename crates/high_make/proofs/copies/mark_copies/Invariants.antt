use Rattle.std.proofs.Common.{◌≡◌, map}
use Rattle.high_pass.specs.Listing.{mark_entry}
use Rattle.plan_runs.specs.Kept.{same_marks}
use Rattle.high_make.proofs.copies.mark_copies.Given as goal

abbrev pub invariant-loop-mark : goal.invariant-loop-mark
invariant-loop-mark l = map mark_entry l.copies.items ≡ same_marks l.mark
