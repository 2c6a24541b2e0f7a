use Rattle.std.proofs.Common.{◌≡◌, ◌*◌, ◌^◌, ◌≤◌}
use Rattle.response_analysis.specs.Equation.{interference}
use Rattle.response_analysis.proofs.equation.interference.Given as goal

abbrev pub invariant-loop-i : goal.invariant-loop-i
invariant-loop-i l = record { value : l.sum ≡ interference l.tasks l.within l.i; small : l.sum ≤ l.i * 2 ^ 103 }
