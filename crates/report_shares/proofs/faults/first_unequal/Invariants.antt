use Rattle.std.proofs.Common.{◌≡◌, drop}
use Rattle.rv_core.specs.Table.{table_of}
use Rattle.report_shares.specs.Faults.{first_by, unequal}
use Rattle.report_shares.proofs.faults.first_unequal.Given as goal

abbrev pub invariant-loop-i : goal.invariant-loop-i
invariant-loop-i l = first_by (unequal (table_of l.costs) l.system l.flow.parts) (drop l.i l.shares) ≡ first_by (unequal (table_of l.costs) l.system l.flow.parts) l.shares
