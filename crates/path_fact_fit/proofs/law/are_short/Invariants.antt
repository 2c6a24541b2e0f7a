use Rattle.std.specs.List.{AllWithin}
use Rattle.path_ranges.specs.Narrow.{HasShortBounds}
use Rattle.path_fact_fit.proofs.law.are_short.Given as goal

abbrev pub invariant-loop-i : goal.invariant-loop-i
invariant-loop-i l = AllWithin HasShortBounds l.loops 0 l.i
