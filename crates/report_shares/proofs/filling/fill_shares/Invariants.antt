use Rattle.std.proofs.Common.{◌≡◌, ◌++◌, take, drop}
use Rattle.std.specs.Prelude.{map}
use Rattle.rv_core.specs.Table.{table_of}
use Rattle.report_shares.specs.Shares.{with_sum}
use Rattle.report_shares.proofs.filling.fill_shares.Given as goal

abbrev pub invariant-loop-i : goal.invariant-loop-i
invariant-loop-i l = l.shares ≡ map (with_sum (table_of l.costs) l.system l.flow.parts) (take l.i l.fn.shares) ++ drop l.i l.fn.shares
