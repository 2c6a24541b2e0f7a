use Rattle.std.proofs.Common.{◌≡◌, ◌-◌, length, drop, IfSome}
use Rattle.rv_core.specs.Table.{table_of}
use Rattle.code_flow_system.specs.Certificates.{limits, potential, scaled_price}
use Rattle.path_values.specs.Owed.{IsNarrowNumber, most_by}
use Rattle.path_values.proofs.owed.most_owed.Given as goal

abbrev pub invariant-loop-k : goal.invariant-loop-k
invariant-loop-k l = (l.most ≡ most_by (scaled_price (table_of l.costs) l.system l.plain) (potential l.plain) (limits l.system.claims l.plain) (drop (length l.steps - l.k) l.steps)) × IfSome l.most IsNarrowNumber
