use Rattle.std.proofs.Common.{◌<◌, ◌≤◌}
use Rattle.path_cutting_planes.proofs.pricing.scale_of.Given as goal

abbrev pub invariant-loop : goal.invariant-loop
invariant-loop l = (0 < l.scale) × (l.scale ≤ l.limit)
