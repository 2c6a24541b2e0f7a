use Rattle.std.proofs.Common.{◌≡◌, ◌+◌, ◌*◌, drop}
use Rattle.c_tree.specs.Size.{empty, size, size_all}
use Rattle.c_tree.specs.View.{expr_of, exprs_of}
use Rattle.c_tree.specs.Tree.{NoExpr}
use Rattle.c_tree.proofs.Sizes.{sizes}
use Rattle.c_tree.proofs.measure.+exprs.Given as goal

abbrev pub invariant-measure_exprs-loop-expr : goal.invariant-measure_exprs-loop-expr
invariant-measure_exprs-loop-expr l = sizes (λ e. size (expr_of e)) l.sum (drop l.expr-index l.exprs) ≡ sizes (λ e. size (expr_of e)) empty l.exprs

abbrev pub decreases-measure_expr : goal.decreases-measure_expr
decreases-measure_expr l = 2 * (size (expr_of l.expr.now)).nodes

abbrev pub decreases-measure_exprs : goal.decreases-measure_exprs
decreases-measure_exprs l = 2 * (size_all (exprs_of NoExpr l.exprs.now)).nodes + 1
