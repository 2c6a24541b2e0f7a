use Rattle.std.proofs.Common.{◌*ℤ◌}
use Rattle.rv_core.specs.Table.{table_of}
use Rattle.code_flow_system.specs.Counts.{amount}
use Rattle.code_flow_system.specs.Flows.{price}
use Rattle.code_flow_system.specs.Certificates.{listed}
use Rattle.dual_check.proofs.SumLemmas.{Adds}
use Rattle.dual_check.proofs.greatest.add_costs.Given as goal

abbrev pub invariant-loop-i : goal.invariant-loop-i
invariant-loop-i l = Adds (λ m. amount (listed l.cert.flow.parts) m *ℤ price (table_of l.costs) l.system m) l.moves l.i l.all.total l.all.size l.fn.sum.total l.fn.sum.size
