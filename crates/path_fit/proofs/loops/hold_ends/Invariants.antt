use Rattle.std.specs.List.{AllWithin}
use Rattle.path_fit.specs.Loops.{HoldsEnds}
use Rattle.path_fit.proofs.loops.hold_ends.Given as goal

abbrev pub invariant-loop-i : goal.invariant-loop-i
invariant-loop-i l = AllWithin HoldsEnds l.shapes 0 l.i
