use Rattle.std.proofs.Common.{max, arith, ap, ◌∙◌}
use Rattle.unroller.proofs.Rows.{value_depth, values_all, values_more}
use Rattle.unroller.proofs.measure.exprs_depth.Goals as goal

pub expr_depth-depth-requires : goal.expr_depth-depth-requires
expr_depth-depth-requires c = let less = value_depth c.args.exprs.now c.loop-expr.expr-index c.expr-item.result c.loop-expr-test.true c.expr-item.is in omega (arith, c.requires, less)

pub loop-expr-preserved : goal.loop-expr-preserved
loop-expr-preserved c =
    values_more c.args.exprs.now c.loop-expr.expr-index c.expr-item.result c.loop-expr.deepest _ c.loop-expr-test.true c.expr-item.is (c.greater-deepest.ensures ∙ ap (max c.loop-expr.deepest) c.expr_depth-depth.ensures)
    ∙ c.loop-expr.invariant

pub returns : goal.returns
returns c = values_all c.args.exprs.now c.loop-expr.expr-index c.loop-expr.deepest _ c.loop-expr-test.false c.loop-expr.invariant
