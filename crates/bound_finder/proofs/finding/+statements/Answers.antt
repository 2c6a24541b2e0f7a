use Rattle.std.proofs.Common.{rules}
use Rattle.bound_finder.proofs.Rows.{block_loops, switch_loops}
use Rattle.bound_finder.proofs.finding.+statements.Goals as goal

pub push_statement-returns-in_ok-push_items-in-Block : goal.push_statement-returns-in_ok-push_items-in-Block
push_statement-returns-in_ok-push_items-in-Block t c = rw (c.in-Block.is, block_loops c.args.variables.now c.in-Block.items c.in-Block.at) (search rules)

pub push_statement-returns-in_ok-push_items-in-Switch : goal.push_statement-returns-in_ok-push_items-in-Switch
push_statement-returns-in_ok-push_items-in-Switch t c =
    rw (c.in-Switch.is, switch_loops c.args.variables.now c.in-Switch.test c.in-Switch.items c.in-Switch.at) (search rules)
