use Rattle.std.proofs.Common.{◌≡◌, drop, ◌++◌}
use Rattle.simplex_tables.specs.Rows.{divided}
use Rattle.simplex_tables.proofs.rows.divided.Given as goal

abbrev pub invariant-loop-i : goal.invariant-loop-i
invariant-loop-i l = l.out.items ++ divided l.g (drop l.i l.row) ≡ divided l.g l.row
