use Rattle.std.proofs.Common.{◌≡◌, drop}
use Rattle.rv_core.specs.Table.{table_of}
use Rattle.code_flow_system.specs.Certificates.{limits, potential, scaled_price}
use Rattle.dual_check.specs.Rows.{first_move_fault}
use Rattle.dual_check.proofs.rows.first_of_moves.Given as goal

abbrev pub invariant-loop-i : goal.invariant-loop-i
invariant-loop-i l = first_move_fault (scaled_price (table_of l.costs) l.system l.cert) (potential l.cert) (limits l.system.claims l.cert) l.moves ≡ first_move_fault (scaled_price (table_of l.costs) l.system l.cert) (potential l.cert) (limits l.system.claims l.cert) (drop l.i l.moves)
