use Rattle.std.proofs.Common.{rules, append_assoc}
use Rattle.call_graph.proofs.Rows.{call_calls}
use Rattle.call_graph.proofs.calls.+exprs.Goals as goal

pub add_expr-returns-in_ok-add_exprs-in-Call : goal.add_expr-returns-in_ok-add_exprs-in-Call
add_expr-returns-in_ok-add_exprs-in-Call t c =
    rw (c.in-Call.is, call_calls c.in-Call.callee c.in-Call.arguments c.in-Call.at) (search (rules, append_assoc))
