use Rattle.std.proofs.Common.{◌≡◌, take, sum_by}
use Rattle.high_ir.specs.Size.{function_nodes}
use Rattle.high_ir.specs.View.{function_of}
use Rattle.high_ir.proofs.measure.functions_size.Given as goal

abbrev pub invariant-loop-function : goal.invariant-loop-function
invariant-loop-function l = l.sum ≡ sum_by (λ f. function_nodes (function_of f)) (take l.function-index l.functions)
