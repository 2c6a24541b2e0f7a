use Rattle.std.proofs.Common.{◌+◌, sym, subst}
use Rattle.simplex_tables.specs.Shapes.{IsShaped}
use Rattle.simplex_rounds.specs.Starts.{variables}
use Rattle.simplex_rounds.proofs.StartShapes.{started_shaped}
use Rattle.simplex_rounds.proofs.rounding.run.Goals as goal

pub pivots-requires-clause-shape : goal.pivots-requires-clause-shape
pivots-requires-clause-shape c = subst (IsShaped (variables c.args.columns.now c.args.sides.now + 3)) (sym c.in_ok-table.ensures) (started_shaped c.args.columns.now c.args.sides.now)
