use Rattle.std.proofs.Common.{◌≡◌, ◌+◌, ◌<◌, ◌^◌, drop}
use Rattle.rv_core.specs.Table.{table_of}
use Rattle.report_shares.specs.Shares.{spent}
use Rattle.report_shares.proofs.sums.spent.Given as goal

abbrev pub invariant-loop-i : goal.invariant-loop-i
invariant-loop-i l = record {
  total : l.all + spent (table_of l.costs) l.system l.flow.parts (drop l.i l.moves) ≡ spent (table_of l.costs) l.system l.flow.parts l.moves;
  small : l.all < 2 ^ 126;
}
