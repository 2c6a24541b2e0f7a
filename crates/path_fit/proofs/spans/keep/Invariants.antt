use Rattle.path_fit.specs.Spans.{KeepUpTo}
use Rattle.path_fit.proofs.spans.keep.Given as goal

abbrev pub invariant-loop-i : goal.invariant-loop-i
invariant-loop-i l = KeepUpTo l.i l.spans l.moves
