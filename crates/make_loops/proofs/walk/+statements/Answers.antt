use Rattle.std.proofs.Common.{rules}
use Rattle.make_loops.proofs.Rows.{block_numbers, switch_numbers}
use Rattle.make_loops.proofs.walk.+statements.Goals as goal

pub push_statement-returns-in_ok-push_items-in-Block : goal.push_statement-returns-in_ok-push_items-in-Block
push_statement-returns-in_ok-push_items-in-Block t c = rw (c.in-Block.is, block_numbers c.in-Block.items c.in-Block.at) (search rules)

pub push_statement-returns-in_ok-push_items-in-Switch : goal.push_statement-returns-in_ok-push_items-in-Switch
push_statement-returns-in_ok-push_items-in-Switch t c = rw (c.in-Switch.is, switch_numbers c.in-Switch.test c.in-Switch.items c.in-Switch.at) (search rules)
