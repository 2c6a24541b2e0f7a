use Rattle.std.specs.List.{AllWithin}
use Rattle.path_fit.specs.Spans.{HoldsFirst}
use Rattle.path_fit.proofs.spans.hold_firsts.Given as goal

abbrev pub invariant-loop-i : goal.invariant-loop-i
invariant-loop-i l = AllWithin HoldsFirst l.spans 0 l.i
