use Rattle.std.proofs.Common.{◌≡◌, ◌++◌, drop}
use Rattle.simplex_rounds.specs.Starts.{sides_from}
use Rattle.simplex_rounds.proofs.starting.sides.Given as goal

abbrev pub invariant-loop-i : goal.invariant-loop-i
invariant-loop-i l = l.sides.items ++ sides_from l.i (drop l.i l.ops) ≡ sides_from 0 l.ops
