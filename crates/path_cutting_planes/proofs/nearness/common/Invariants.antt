use Rattle.std.proofs.Common.{◌<◌}
use Rattle.path_cutting_planes.proofs.nearness.common.Given as goal

abbrev pub invariant-loop-i : goal.invariant-loop-i
invariant-loop-i l = 0 < l.all
