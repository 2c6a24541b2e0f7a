use Rattle.std.proofs.Common.{◌∙◌}
use Rattle.lower_expression.specs.View.{scope_of, shares_of}
use Rattle.lower_expression.proofs.Shares.{shares_more}
use Rattle.lower_expression.proofs.sharing.shares_in_all.Goals as goal

pub loop-expr-preserved : goal.loop-expr-preserved
loop-expr-preserved c =
    shares_more (scope_of c.args.scope.now) c.args.first c.args.exprs.now c.loop-expr.expr-index c.expr-item.result (shares_of c.loop-expr.shares.items) (shares_of c.shares_in.new.shares.items) c.loop-expr-test.true c.expr-item.is c.in_ok-shares_in.ensures
    ∙ c.loop-expr.invariant
