use Rattle.std.proofs.Common.{map, take}
use Rattle.high_pass.specs.Listing.{mark_entry}
use Rattle.compile_claims.specs.CopyLines.{AreLinesOf}
use Rattle.compile_claims.proofs.copies.copy_lines.Given as goal

abbrev pub invariant-loop-i : goal.invariant-loop-i
invariant-loop-i l = AreLinesOf l.names l.places (take l.i l.counted) (take l.i (map mark_entry l.copies)) l.lines.items
