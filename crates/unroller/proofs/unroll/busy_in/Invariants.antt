use Rattle.std.proofs.Common.{◌≡◌, ◌+◌, take, sum_by}
use Rattle.high_ir.specs.View.{statement_of}
use Rattle.high_unrolled.specs.Programs.{busy}
use Rattle.unroller.proofs.unroll.busy_in.Given as goal

abbrev pub invariant-loop-function : goal.invariant-loop-function
invariant-loop-function l = l.sum ≡ sum_by (λ f. busy (statement_of f.body) + 1) (take l.function-index l.functions)
