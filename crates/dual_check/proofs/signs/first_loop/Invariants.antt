use Rattle.std.proofs.Common.{◌≡◌, ◌+◌, drop}
use Rattle.dual_check.specs.Rows.{first_failing, is_negative_pair}
use Rattle.dual_check.proofs.signs.first_loop.Given as goal

abbrev pub invariant-loop-i : goal.invariant-loop-i
invariant-loop-i l = first_failing is_negative_pair l.from l.multipliers ≡ first_failing is_negative_pair (l.from + l.i) (drop l.i l.multipliers)
