use Rattle.std.proofs.Common.{◌≡◌, map, take}
use Rattle.high_ir.specs.View.{expr_of}
use Rattle.high_again.proofs.expressions.copied_exprs.Given as goal

abbrev pub invariant-loop-expr : goal.invariant-loop-expr
invariant-loop-expr l = map expr_of l.copies.items ≡ map expr_of (take l.expr-index l.exprs)
