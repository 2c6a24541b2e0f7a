use Rattle.std.proofs.Common.{◌≡◌, drop, max}
use Rattle.unroller.proofs.Rows.{depths_of}
use Rattle.unroller.proofs.measure.exprs_depth.Given as goal

abbrev pub invariant-loop-expr : goal.invariant-loop-expr
invariant-loop-expr l = max l.deepest (depths_of (drop l.expr-index l.exprs)) ≡ depths_of l.exprs
