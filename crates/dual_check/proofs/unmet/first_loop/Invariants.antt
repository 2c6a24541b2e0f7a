use Rattle.std.proofs.Common.{◌≡◌, ◌+◌, drop}
use Rattle.dual_check.specs.Rows.{first_failing, fails_loop, counts}
use Rattle.dual_check.proofs.unmet.first_loop.Given as goal

abbrev pub invariant-loop-i : goal.invariant-loop-i
invariant-loop-i l = first_failing (fails_loop (counts l.system l.cert)) l.from l.claims ≡ first_failing (fails_loop (counts l.system l.cert)) (l.from + l.i) (drop l.i l.claims)
