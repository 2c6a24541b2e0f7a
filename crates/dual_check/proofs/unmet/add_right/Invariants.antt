use Rattle.std.proofs.Common.{◌*ℤ◌, neg_ℤ}
use Rattle.dual_check.specs.Rows.{counts}
use Rattle.dual_check.proofs.SumLemmas.{Adds}
use Rattle.dual_check.proofs.unmet.add_right.Given as goal

abbrev pub invariant-loop-i : goal.invariant-loop-i
invariant-loop-i l = Adds (λ t. neg_ℤ t.1 *ℤ counts l.system l.cert t.0) l.terms l.i l.all.total l.all.size l.fn.sum.total l.fn.sum.size
