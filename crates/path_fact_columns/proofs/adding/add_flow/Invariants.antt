use Rattle.std.proofs.Common.{◌≡◌, ◌++◌, take, drop}
use Rattle.code_flow_system.specs.Certificates.{listed}
use Rattle.path_fact_columns.specs.Adding.{raised}
use Rattle.path_fact_columns.proofs.adding.add_flow.Given as goal

abbrev pub invariant-loop-i : goal.invariant-loop-i
invariant-loop-i l = l.amounts ≡ take l.i (raised l.often (listed l.parts) l.moves l.fn.amounts) ++ drop l.i l.fn.amounts
