use Rattle.std.specs.List.{AllWithin}
use Rattle.code_flow_system.specs.Shapes.{GoesUp}
use Rattle.path_fit.proofs.loops.go_up.Given as goal

abbrev pub invariant-loop-i : goal.invariant-loop-i
invariant-loop-i l = AllWithin (GoesUp l.shapes) l.moves 0 l.i
