use Rattle.std.proofs.Common.{◌∙◌, sym, subst}
use Rattle.simplex_tables.specs.Shapes.{KeepsShape}
use Rattle.simplex_tables.proofs.ShapeLemmas.{goes_on}
use Rattle.simplex_tables.proofs.running.pivots.Goals as goal

pub loop-k-preserved : goal.loop-k-preserved
loop-k-preserved c =
    let l = c.loop-k in
    let a = c.args in (
      goes_on a.left l.k a.variables a.made l.table _ c.loop-k-test.true l.invariant.0 c.in-Turns.new (sym c.in_ok-new.ensures.value ∙ c.in-Turns.is),
      subst (KeepsShape a.variables a.width) c.in-Turns.is c.in_ok-new.ensures.shape,
    )
