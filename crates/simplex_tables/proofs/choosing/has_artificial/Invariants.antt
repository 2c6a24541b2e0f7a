use Rattle.std.proofs.Common.{◌≡◌, drop}
use Rattle.simplex_tables.specs.Choices.{is_among}
use Rattle.simplex_tables.proofs.choosing.has_artificial.Given as goal

abbrev pub invariant-loop-i : goal.invariant-loop-i
invariant-loop-i l = is_among 0 (drop l.i l.owns) ≡ is_among 0 l.owns
