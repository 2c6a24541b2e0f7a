use Rattle.std.proofs.Common.{arith}
use Rattle.facts_most.proofs.Rows.{call_row}
use Rattle.facts_most.specs.Items.{calls_by}
use Rattle.facts_most.proofs.executed.+exprs.Goals as goal

pub expr_most-returns-in-Call : goal.expr_most-returns-in-Call
expr_most-returns-in-Call t c =
    rw (c.in-Call.is, call_row (calls_by c.args.calls.now) c.in-Call.callee c.in-Call.arguments c.in-Call.at, ← c.deref-in-Call.ensures.value) (omega arith)
