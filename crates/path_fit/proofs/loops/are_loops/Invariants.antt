use Rattle.std.specs.List.{AllWithin}
use Rattle.code_flow_system.specs.Shapes.{IsLoop}
use Rattle.path_fit.proofs.loops.are_loops.Given as goal

abbrev pub invariant-loop-i : goal.invariant-loop-i
invariant-loop-i l = AllWithin (IsLoop l.system) l.shapes 0 l.i
