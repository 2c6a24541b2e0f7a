use Rattle.std.proofs.Common.{◌∙◌}
use Rattle.lower_expression.specs.View.{passing_in, scope_of, shares_of}
use Rattle.lower_expression.proofs.Arguments.{values_more}
use Rattle.lower_expression.proofs.passing.values_passed.Goals as goal

pub loop-value-preserved : goal.loop-value-preserved
loop-value-preserved c =
    values_more (scope_of c.args.scope.now) (shares_of c.args.shares.now) c.args.arrays.now c.args.values.now c.loop-value.value-index c.value-item.result
    (passing_in c.loop-value.coder c.loop-value.arguments.items) (passing_in c.pass_value.new.coder c.pass_value.new.arguments.items) c.loop-value-test.true c.value-item.is c.in_ok-pass_value.ensures
    ∙ c.loop-value.invariant
