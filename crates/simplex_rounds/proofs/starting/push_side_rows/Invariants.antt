use Rattle.std.proofs.Common.{◌≡◌, ◌++◌, drop}
use Rattle.simplex_rounds.specs.Starts.{side_rows}
use Rattle.simplex_rounds.proofs.starting.push_side_rows.Given as goal

abbrev pub invariant-loop-i : goal.invariant-loop-i
invariant-loop-i l = l.rows.items ++ side_rows l.columns l.sides l.i (drop l.i l.sides) ≡ l.fn.rows.items ++ side_rows l.columns l.sides 0 l.sides
