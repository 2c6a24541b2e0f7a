use Rattle.std.specs.Prelude.{◌<◌}
use Rattle.std.specs.List.{AllAdjacentBelow}
use Rattle.path_fit.proofs.nest.firsts_ascend.Given as goal

abbrev pub invariant-loop-i : goal.invariant-loop-i
invariant-loop-i l = AllAdjacentBelow (λ k m. k.first < m.first) l.shapes l.i
