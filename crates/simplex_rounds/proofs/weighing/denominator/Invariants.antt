use Rattle.std.proofs.Common.{◌≡◌, ◌<◌, drop, true}
use Rattle.simplex_rounds.specs.Limits.{is_narrow}
use Rattle.simplex_rounds.specs.Weighted.{denominator}
use Rattle.simplex_rounds.proofs.weighing.denominator.Given as goal

abbrev pub invariant-loop-i : goal.invariant-loop-i
invariant-loop-i l = (denominator l.all (drop l.i l.weights) ≡ denominator 1 l.weights) × (is_narrow l.times l.all ≡ true) × (0 < l.all)
