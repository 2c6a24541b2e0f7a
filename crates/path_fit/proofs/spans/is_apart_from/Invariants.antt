use Rattle.std.specs.List.{AllWithin}
use Rattle.code_flow_system.specs.Shapes.{AreApart}
use Rattle.path_fit.proofs.spans.is_apart_from.Given as goal

abbrev pub invariant-loop-i : goal.invariant-loop-i
invariant-loop-i l = AllWithin (AreApart l.fn.span) l.others 0 l.i
