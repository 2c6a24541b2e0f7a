use Rattle.std.proofs.Common.{◌≡◌, drop}
use Rattle.lower_expression.specs.Behind.{after_passing}
use Rattle.lower_expression.specs.View.{passing_in, scope_of}
use Rattle.lower_definition.specs.Values.{arrays_passed}
use Rattle.lower_expression.proofs.passing.arrays_passed.Given as goal

abbrev pub invariant-loop-array : goal.invariant-loop-array
invariant-loop-array l =
    after_passing (passing_in l.coder l.arguments.items) (arrays_passed (scope_of l.scope) (drop l.array-index l.arrays) l.coder.free)
    ≡ after_passing (passing_in l.initial.coder l.initial.arguments.items) (arrays_passed (scope_of l.scope) l.arrays l.initial.coder.free)
