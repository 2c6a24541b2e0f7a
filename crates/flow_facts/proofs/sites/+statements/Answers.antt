use Rattle.std.proofs.Common.{rules}
use Rattle.flow_facts.proofs.Rows.{block_sites, switch_sites}
use Rattle.flow_facts.proofs.sites.+statements.Goals as goal

pub push_statement-returns-in_ok-push_items-in-Block : goal.push_statement-returns-in_ok-push_items-in-Block
push_statement-returns-in_ok-push_items-in-Block t c = rw (c.in-Block.is, block_sites c.args.variables.now c.in-Block.items c.in-Block.at) (search rules)

pub push_statement-returns-in_ok-push_items-in-Switch : goal.push_statement-returns-in_ok-push_items-in-Switch
push_statement-returns-in_ok-push_items-in-Switch t c =
    rw (c.in-Switch.is, switch_sites c.args.variables.now c.in-Switch.test c.in-Switch.items c.in-Switch.at) (search rules)
