use Rattle.std.proofs.Common.{rules, append_assoc}
use Rattle.call_graph.proofs.Rows.{block_calls, switch_calls}
use Rattle.call_graph.proofs.calls.+statements.Goals as goal

pub add_statement-returns-in_ok-add_items-in-Block : goal.add_statement-returns-in_ok-add_items-in-Block
add_statement-returns-in_ok-add_items-in-Block t c = rw (c.in-Block.is, block_calls c.in-Block.items c.in-Block.at) (search rules)

pub add_statement-returns-in_ok-add_items-in-Switch : goal.add_statement-returns-in_ok-add_items-in-Switch
add_statement-returns-in_ok-add_items-in-Switch t c =
    rw (c.in-Switch.is, switch_calls c.in-Switch.test c.in-Switch.items c.in-Switch.at) (search (rules, append_assoc))
