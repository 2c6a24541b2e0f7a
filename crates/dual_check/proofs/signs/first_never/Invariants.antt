use Rattle.std.proofs.Common.{◌≡◌, ◌+◌, drop}
use Rattle.dual_check.specs.Rows.{first_failing, is_negative}
use Rattle.dual_check.proofs.signs.first_never.Given as goal

abbrev pub invariant-loop-i : goal.invariant-loop-i
invariant-loop-i l = first_failing is_negative l.from l.multipliers ≡ first_failing is_negative (l.from + l.i) (drop l.i l.multipliers)
