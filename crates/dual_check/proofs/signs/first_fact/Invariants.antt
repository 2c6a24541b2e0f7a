use Rattle.std.proofs.Common.{◌≡◌, ◌+◌, drop}
use Rattle.dual_check.specs.Rows.{first_wrong_fact}
use Rattle.dual_check.proofs.signs.first_fact.Given as goal

abbrev pub invariant-loop-i : goal.invariant-loop-i
invariant-loop-i l = first_wrong_fact l.from l.facts l.multipliers ≡ first_wrong_fact (l.from + l.i) (drop l.i l.facts) (drop l.i l.multipliers)
