use Rattle.std.proofs.Common.{◌≡◌, ◌+◌, ◌++◌, drop}
use Rattle.simplex_rounds.specs.Starts.{own_slacks}
use Rattle.simplex_rounds.proofs.starting.owns.Given as goal

abbrev pub invariant-loop-i : goal.invariant-loop-i
invariant-loop-i l = l.owns.items ++ own_slacks ((l.columns + 1) + l.i) (drop l.i l.sides) ≡ own_slacks (l.columns + 1) l.sides
