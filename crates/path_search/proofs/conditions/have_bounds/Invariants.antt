use Rattle.std.specs.List.{AllWithin}
use Rattle.path_flows.specs.CountLaws.{HasBounds}
use Rattle.path_search.proofs.conditions.have_bounds.Given as goal

abbrev pub invariant-loop-i : goal.invariant-loop-i
invariant-loop-i l = AllWithin HasBounds l.loops 0 l.i
