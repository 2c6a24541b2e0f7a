use Rattle.std.proofs.Common.{◌≡◌, drop}
use Rattle.simplex_tables.specs.Rows.{divisor_from}
use Rattle.simplex_tables.proofs.rows.divisor.Given as goal

abbrev pub invariant-loop-i : goal.invariant-loop-i
invariant-loop-i l = divisor_from l.g (drop l.i l.row) ≡ divisor_from 0 l.row
