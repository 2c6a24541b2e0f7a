use Rattle.std.proofs.Common.{◌≡◌, ◌++◌, drop}
use Rattle.simplex_rounds.specs.Starts.{values_of}
use Rattle.simplex_rounds.proofs.starting.push_values.Given as goal

abbrev pub invariant-loop-i : goal.invariant-loop-i
invariant-loop-i l = l.row.items ++ values_of (drop l.i l.columns) ≡ l.fn.row.items ++ values_of l.columns
