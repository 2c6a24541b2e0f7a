use Rattle.std.proofs.Common.{◌≡◌, map, take}
use Rattle.high_ir.specs.View.{expr_of}
use Rattle.inliner.specs.Moving.{moved_expr}
use Rattle.inliner.specs.View.{place_of}
use Rattle.inliner.proofs.moving.moved_exprs.Given as goal

abbrev pub invariant-loop-expr : goal.invariant-loop-expr
invariant-loop-expr l = map expr_of l.moved.items ≡ map (moved_expr (place_of l.place)) (map expr_of (take l.expr-index l.exprs))
