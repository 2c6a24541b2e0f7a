use Rattle.std.proofs.Common.{neg_ℤ}
use Rattle.code_flow_system.specs.Lookups.{amount_at}
use Rattle.code_flow_system.specs.Certificates.{listed}
use Rattle.dual_check.proofs.SumLemmas.{Adds}
use Rattle.dual_check.proofs.flows.add_arrivals.Given as goal

abbrev pub invariant-loop-i : goal.invariant-loop-i
invariant-loop-i l = Adds (λ r. neg_ℤ (amount_at (listed l.cert.flow.parts) l.system.moves r.place)) l.arrivals l.i l.all.total l.all.size l.fn.sum.total l.fn.sum.size
