use Rattle.std.proofs.Common.{◌≡◌, ◌+◌, take, sum_by}
use Rattle.high_ir.specs.Size.{operations}
use Rattle.high_ir.specs.View.{function_of}
use Rattle.try_forms.proofs.operations.of_functions.Given as goal

abbrev pub invariant-loop-function : goal.invariant-loop-function
invariant-loop-function l = l.sum ≡ sum_by (λ f. operations (function_of f).body + 1) (take l.function-index l.functions)
