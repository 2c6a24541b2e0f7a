use Rattle.std.proofs.Common.{◌≡◌, ◌+◌, drop}
use Rattle.simplex_tables.specs.Choices.{first_negative}
use Rattle.simplex_tables.proofs.choosing.first_negative.Given as goal

abbrev pub invariant-loop-i : goal.invariant-loop-i
invariant-loop-i l = first_negative (1 + l.i) (drop l.i l.row) ≡ first_negative 1 l.row
