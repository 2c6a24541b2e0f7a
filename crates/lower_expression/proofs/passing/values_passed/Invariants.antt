use Rattle.std.proofs.Common.{◌≡◌, drop, map}
use Rattle.high_ir.specs.View.{expr_of}
use Rattle.lower_expression.specs.Behind.{after_passing}
use Rattle.lower_expression.specs.View.{passing_in, scope_of, shares_of}
use Rattle.lower_definition.specs.Values.{values_passed}
use Rattle.lower_expression.proofs.passing.values_passed.Given as goal

abbrev pub invariant-loop-value : goal.invariant-loop-value
invariant-loop-value l =
    after_passing (passing_in l.coder l.arguments.items) (values_passed (scope_of l.scope) (shares_of l.shares) (map expr_of (drop l.value-index l.values)) l.arrays l.coder.free)
    ≡ after_passing (passing_in l.initial.coder l.initial.arguments.items) (values_passed (scope_of l.scope) (shares_of l.shares) (map expr_of l.values) l.arrays l.initial.coder.free)
