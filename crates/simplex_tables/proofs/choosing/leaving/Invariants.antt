use Rattle.std.proofs.Common.{◌≡◌, drop, None, IfSome}
use Rattle.simplex_tables.specs.Choices.{leaving_from}
use Rattle.simplex_tables.specs.Shapes.{IsChoice}
use Rattle.simplex_tables.proofs.choosing.leaving.Given as goal

abbrev pub invariant-loop-i : goal.invariant-loop-i
invariant-loop-i l = (leaving_from l.place l.i l.best (drop l.i l.owns) (drop l.i l.rows) ≡ leaving_from l.place 0 None l.owns l.rows) × IfSome l.best (IsChoice l.i)
