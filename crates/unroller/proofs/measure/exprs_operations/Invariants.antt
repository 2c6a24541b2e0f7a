use Rattle.std.proofs.Common.{◌≡◌, take, sum_by}
use Rattle.high_ir.specs.Size.{expr_operations}
use Rattle.high_ir.specs.View.{expr_of}
use Rattle.unroller.proofs.measure.exprs_operations.Given as goal

abbrev pub invariant-loop-expr : goal.invariant-loop-expr
invariant-loop-expr l = l.sum ≡ sum_by (λ e. expr_operations (expr_of e)) (take l.expr-index l.exprs)
