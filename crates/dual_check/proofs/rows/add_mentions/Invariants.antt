use Rattle.std.proofs.Common.{◌*ℤ◌}
use Rattle.code_flow_system.specs.Lookups.{by_at}
use Rattle.code_flow_system.specs.Certificates.{limits}
use Rattle.dual_check.proofs.SumLemmas.{Adds}
use Rattle.dual_check.proofs.rows.add_mentions.Given as goal

abbrev pub invariant-loop-i : goal.invariant-loop-i
invariant-loop-i l = Adds (λ m. by_at (limits l.system.claims l.cert) m.limit *ℤ m.coefficient) l.mentions l.i l.all.total l.all.size l.fn.sum.total l.fn.sum.size
