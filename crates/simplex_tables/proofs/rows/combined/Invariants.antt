use Rattle.std.proofs.Common.{◌≡◌, drop, ◌++◌}
use Rattle.simplex_tables.specs.Rows.{combined, any_wide}
use Rattle.simplex_tables.proofs.rows.combined.Given as goal

abbrev pub invariant-loop-i : goal.invariant-loop-i
invariant-loop-i l =
    (l.out.items ++ combined l.p l.q (drop l.i l.row) (drop l.i l.base) ≡ combined l.p l.q l.row l.base)
    × (any_wide l.p l.q (drop l.i l.row) (drop l.i l.base) ≡ any_wide l.p l.q l.row l.base)
