use Rattle.std.proofs.Common.{take}
use Rattle.low_make.specs.Marks.{Marks}
use Rattle.low_make.proofs.noting.marks_of.Given as goal

abbrev pub invariant-loop-object : goal.invariant-loop-object
invariant-loop-object l = Marks l.seen.items (take l.object-index l.claim)
