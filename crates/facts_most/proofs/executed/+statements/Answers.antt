use Rattle.std.proofs.Common.{arith}
use Rattle.facts_most.proofs.Rows.{block_row, switch_row}
use Rattle.facts_most.specs.Items.{calls_by}
use Rattle.facts_most.proofs.executed.+statements.Goals as goal

pub statement_most-returns-in-Block : goal.statement_most-returns-in-Block
statement_most-returns-in-Block t c =
    rw (c.in-Block.is, block_row c.args.bounds.now (calls_by c.args.calls.now) c.in-Block.items c.in-Block.at, ← c.deref.ensures.value) (omega arith)

pub statement_most-returns-in-Switch : goal.statement_most-returns-in-Switch
statement_most-returns-in-Switch t c =
    rw (c.in-Switch.is, switch_row c.args.bounds.now (calls_by c.args.calls.now) c.in-Switch.test c.in-Switch.items c.in-Switch.at, ← c.deref-in-Switch.ensures.value) (omega arith)

pub statement_most-returns-in-For : goal.statement_most-returns-in-For
statement_most-returns-in-For t c =
    rw (c.in-For.is, ← c.deref-in-For.ensures, ← c.is_always_or_absent.ensures, ← c.bounds_at-in-For.ensures, ← c.times-times-in-For.ensures.same)
    (c.for_most.ensures _ _ c.start_most.ensures (c.turn_most-turn.ensures _ c.statement_most-body.ensures))
