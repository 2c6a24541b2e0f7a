use Rattle.std.specs.List.{AllWithin}
use Rattle.code_flow_system.specs.Shapes.{AreNested}
use Rattle.path_fit.proofs.nest.nests_with.Given as goal

abbrev pub invariant-loop-i : goal.invariant-loop-i
invariant-loop-i l = AllWithin (AreNested l.fn.shape) l.others 0 l.i
