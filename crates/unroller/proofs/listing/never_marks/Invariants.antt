use Rattle.std.proofs.Common.{◌≡◌, ◌++◌, drop}
use Rattle.high_unrolled.specs.Programs.{nevers_from}
use Rattle.unroller.proofs.listing.never_marks.Given as goal

abbrev pub invariant-loop-each : goal.invariant-loop-each
invariant-loop-each l = l.nevers.items ++ nevers_from l.factor l.number (drop l.each-index l.made) ≡ nevers_from l.factor l.marks l.made
