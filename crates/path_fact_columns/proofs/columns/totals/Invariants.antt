use Rattle.std.proofs.Common.{◌≡◌, ◌++◌, drop}
use Rattle.code_flow_system.specs.Counts.{count}
use Rattle.code_flow_system.specs.Certificates.{listed}
use Rattle.path_fact_kinds.specs.Columns.{totals_of}
use Rattle.path_fact_columns.proofs.columns.totals.Given as goal

abbrev pub invariant-loop-i : goal.invariant-loop-i
invariant-loop-i l = l.totals.items ++ totals_of (drop l.i l.system.claims.facts) (count (listed l.parts) l.system.moves) ≡ totals_of l.system.claims.facts (count (listed l.parts) l.system.moves)
