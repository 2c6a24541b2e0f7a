use Rattle.std.proofs.Common.{◌≡◌, ◌++◌, drop, map}
use Rattle.rv_core.specs.Table.{table_of}
use Rattle.code_flow_system.specs.Flows.{price}
use Rattle.path_values.proofs.price.prices.Given as goal

abbrev pub invariant-loop-i : goal.invariant-loop-i
invariant-loop-i l = l.prices.items ++ map (price (table_of l.costs) l.system) (drop l.i l.system.moves) ≡ map (price (table_of l.costs) l.system) l.system.moves
