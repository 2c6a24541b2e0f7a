use Rattle.std.proofs.Common.{◌≡◌, map, take}
use Rattle.std.specs.List.{flat_map}
use Rattle.high_pass.specs.Listing.{mark_copies, mark_entry}
use Rattle.high_pass.proofs.compose.copies_of_marks.Given as goal

abbrev pub invariant-loop-mark : goal.invariant-loop-mark
invariant-loop-mark l = l.all.items ≡ flat_map (mark_copies (map mark_entry l.step)) (take l.mark-index l.marks)
