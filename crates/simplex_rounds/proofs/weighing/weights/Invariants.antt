use Rattle.std.proofs.Common.{◌≡◌, ◌<◌, ◌++◌, drop, All}
use Rattle.simplex_rounds.specs.Weighted.{weights_of}
use Rattle.simplex_rounds.proofs.weighing.weights.Given as goal

abbrev pub invariant-loop-i : goal.invariant-loop-i
invariant-loop-i l = (l.weights.items ++ weights_of l.columns (drop l.i l.owns) (drop l.i l.rows) ≡ weights_of l.columns l.owns l.rows) × All (λ w. 0 < w.bottom) l.weights.items
