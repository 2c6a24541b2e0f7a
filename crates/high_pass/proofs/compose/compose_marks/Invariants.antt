use Rattle.std.proofs.Common.{◌≡◌, map, take}
use Rattle.high_pass.specs.Composing.{marks_through}
use Rattle.high_pass.specs.Listing.{mark_entry}
use Rattle.high_pass.proofs.compose.compose_marks.Given as goal

abbrev pub invariant-loop-entry : goal.invariant-loop-entry
invariant-loop-entry l = map mark_entry l.made.items ≡ map (λ e. marks_through (map mark_entry l.step) (mark_entry e)) (take l.entry-index l.whole)
