use Rattle.std.specs.List.{AllWithin}
use Rattle.rv_core.specs.Table.{table_of}
use Rattle.code_flow_system.specs.Flows.{price}
use Rattle.loop_prices.specs.LoopPrices.{IsPaid}
use Rattle.path_loose_fit.specs.Rows.{worths_of}
use Rattle.path_loose_fit.proofs.row.are_paid.Given as goal

abbrev pub invariant-loop-i : goal.invariant-loop-i
invariant-loop-i l = AllWithin (IsPaid (price (table_of l.costs) l.system) l.system.claims.loops (worths_of l.places l.turns)) l.moves 0 l.i
