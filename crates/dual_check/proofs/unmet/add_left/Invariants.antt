use Rattle.std.proofs.Common.{◌*ℤ◌}
use Rattle.dual_check.specs.Rows.{counts}
use Rattle.dual_check.proofs.SumLemmas.{Adds}
use Rattle.dual_check.proofs.unmet.add_left.Given as goal

abbrev pub invariant-loop-i : goal.invariant-loop-i
invariant-loop-i l = Adds (λ t. t.1 *ℤ counts l.system l.cert t.0) l.terms l.i l.all.total l.all.size l.fn.sum.total l.fn.sum.size
