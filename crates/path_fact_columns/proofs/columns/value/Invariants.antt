use Rattle.std.proofs.Common.{◌≡◌, ◌^◌, pos, ◌+ℤ◌, ◌≤ℤ◌, drop}
use Rattle.rv_core.specs.Table.{table_of}
use Rattle.code_flow_system.specs.Counts.{total}
use Rattle.code_flow_system.specs.Flows.{price}
use Rattle.code_flow_system.specs.Certificates.{listed}
use Rattle.path_fact_columns.proofs.columns.value.Given as goal

abbrev pub invariant-loop-i : goal.invariant-loop-i
invariant-loop-i l =
    let f = price (table_of l.costs) l.system in
    ((l.all +ℤ total f (listed l.parts) (drop l.i l.system.moves)) ≡ total f (listed l.parts) l.system.moves) × (pos 0 ≤ℤ l.all) × (l.all ≤ℤ pos (2 ^ 60))
