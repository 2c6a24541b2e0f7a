use Rattle.std.proofs.Common.{rules}
use Rattle.bound_finder.proofs.Rows.{block_changes, switch_changes}
use Rattle.bound_finder.proofs.changing.+statements.Goals as goal

pub statement_changes-returns-in-Block : goal.statement_changes-returns-in-Block
statement_changes-returns-in-Block t c =
    rw (c.in-Block.is, block_changes c.args.object c.in-Block.items c.in-Block.at, ← c.deref.ensures.value) c.items_changes-changed.ensures

pub statement_changes-returns-in-Switch : goal.statement_changes-returns-in-Switch
statement_changes-returns-in-Switch t c =
    rw (c.in-Switch.is, switch_changes c.args.object c.in-Switch.test c.in-Switch.items c.in-Switch.at, ← c.deref-in-Switch.ensures.value) (search rules)
