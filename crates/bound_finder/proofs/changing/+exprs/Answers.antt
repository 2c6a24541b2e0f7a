use Rattle.bound_finder.proofs.Rows.{call_changes}
use Rattle.bound_finder.proofs.changing.+exprs.Goals as goal

pub expr_changes-returns-in-Call : goal.expr_changes-returns-in-Call
expr_changes-returns-in-Call t c =
    rw (c.in-Call.is, call_changes c.args.object c.in-Call.callee c.in-Call.arguments c.in-Call.at, ← c.deref-in-Call.ensures.value) c.exprs_changes-changed.ensures
