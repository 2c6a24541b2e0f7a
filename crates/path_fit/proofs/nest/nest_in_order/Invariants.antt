use Rattle.std.proofs.Common.{◌-◌, length}
use Rattle.path_fit.specs.Nests.{AreClosedFrom}
use Rattle.path_fit.proofs.nest.nest_in_order.Given as goal

abbrev pub invariant-loop-i : goal.invariant-loop-i
invariant-loop-i l = AreClosedFrom (length l.shapes - l.i) l.shapes
