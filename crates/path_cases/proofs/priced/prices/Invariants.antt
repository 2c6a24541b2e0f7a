use Rattle.std.proofs.Common.{◌≡◌, ◌++◌, drop, map}
use Rattle.rv_core.specs.Table.{table_of}
use Rattle.path_cases.specs.Prices.{rest_of}
use Rattle.path_cases.proofs.priced.prices.Given as goal

abbrev pub invariant-loop-i : goal.invariant-loop-i
invariant-loop-i l = l.prices.items ++ map (rest_of (table_of l.costs) l.system) (drop l.i l.system.moves) ≡ map (rest_of (table_of l.costs) l.system) l.system.moves
