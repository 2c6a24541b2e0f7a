use Rattle.std.proofs.Common.{◌≡◌, ◌++◌, drop}
use Rattle.types_calls.specs.Calls.{exprs_calls}
use Rattle.types_tree.specs.View.{exprs_of}
use Rattle.call_graph.proofs.calls.+exprs.Given as goal

abbrev pub invariant-add_exprs-loop-expr : goal.invariant-add_exprs-loop-expr
invariant-add_exprs-loop-expr l = l.calls.items ++ exprs_calls (exprs_of (drop l.expr-index l.exprs)) ≡ l.fn.calls.items ++ exprs_calls (exprs_of l.exprs)
