use Rattle.std.proofs.Common.{◌≡◌, ◌++◌, drop}
use Rattle.simplex_rounds.specs.Starts.{slacks}
use Rattle.simplex_rounds.proofs.starting.push_slacks.Given as goal

abbrev pub invariant-loop-k : goal.invariant-loop-k
invariant-loop-k l = l.row.items ++ slacks l.own l.k (drop l.k l.sides) ≡ l.fn.row.items ++ slacks l.own 0 l.sides
