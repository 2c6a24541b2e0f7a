use Rattle.std.specs.List.{AllWithin}
use Rattle.path_fit.specs.Spans.{KeepsTo}
use Rattle.path_fit.proofs.spans.keep_to.Given as goal

abbrev pub invariant-loop-i : goal.invariant-loop-i
invariant-loop-i l = AllWithin (KeepsTo l.before l.fn.span) l.steps 0 l.i
