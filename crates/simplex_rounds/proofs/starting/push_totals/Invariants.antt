use Rattle.std.proofs.Common.{◌≡◌, ◌++◌, drop}
use Rattle.simplex_rounds.specs.Starts.{side_totals}
use Rattle.simplex_rounds.proofs.starting.push_totals.Given as goal

abbrev pub invariant-loop-i : goal.invariant-loop-i
invariant-loop-i l = l.row.items ++ side_totals l.side (drop l.i l.columns) ≡ l.fn.row.items ++ side_totals l.side l.columns
