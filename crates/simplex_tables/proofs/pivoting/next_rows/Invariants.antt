use Rattle.std.proofs.Common.{◌≡◌, drop, length, All}
use Rattle.simplex_tables.specs.Pivots.{next_rows}
use Rattle.simplex_tables.proofs.Lists.{append_of}
use Rattle.simplex_tables.proofs.pivoting.next_rows.Given as goal

abbrev pub invariant-loop-i : goal.invariant-loop-i
invariant-loop-i l = (append_of l.all.items (next_rows l.place l.base l.number l.i (drop l.i l.rows)) ≡ next_rows l.place l.base l.number 0 l.rows) × All (λ r. length r ≡ length l.base) l.all.items × (length l.all.items ≡ l.i)
