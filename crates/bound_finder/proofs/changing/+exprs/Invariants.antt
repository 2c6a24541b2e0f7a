use Rattle.std.proofs.Common.{◌≡◌, drop}
use Rattle.types_tree.specs.View.{exprs_of}
use Rattle.facts_loops.specs.Changes.{exprs_changes}
use Rattle.bound_finder.proofs.changing.+exprs.Given as goal

abbrev pub invariant-exprs_changes-loop-expr : goal.invariant-exprs_changes-loop-expr
invariant-exprs_changes-loop-expr l = exprs_changes l.object (exprs_of (drop l.expr-index l.exprs)) ≡ exprs_changes l.object (exprs_of l.exprs)
