use Rattle.std.proofs.Common.{◌≡◌, ◌++◌, drop, map}
use Rattle.high_ir.specs.View.{expr_of}
use Rattle.high_folded.specs.Folded.{folded_expr}
use Rattle.high_fold.proofs.expressions.folded_exprs.Given as goal

abbrev pub invariant-loop-expr : goal.invariant-loop-expr
invariant-loop-expr l = map expr_of l.made.items ++ map folded_expr (map expr_of (drop l.expr-index l.exprs)) ≡ map folded_expr (map expr_of l.exprs)
