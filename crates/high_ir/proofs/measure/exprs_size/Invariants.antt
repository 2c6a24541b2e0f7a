use Rattle.std.proofs.Common.{◌≡◌, take, sum_by}
use Rattle.high_ir.specs.Size.{expr_nodes}
use Rattle.high_ir.specs.View.{expr_of}
use Rattle.high_ir.proofs.measure.exprs_size.Given as goal

abbrev pub invariant-loop-expr : goal.invariant-loop-expr
invariant-loop-expr l = l.sum ≡ sum_by (λ e. expr_nodes (expr_of e)) (take l.expr-index l.exprs)
