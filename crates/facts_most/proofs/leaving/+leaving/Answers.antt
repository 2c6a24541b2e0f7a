use Rattle.facts_most.proofs.Rows.{block_leaves, switch_leaves}
use Rattle.facts_most.proofs.leaving.+leaving.Goals as goal

pub leaves-returns-in-Block : goal.leaves-returns-in-Block
leaves-returns-in-Block t c =
    rw (c.in-Block.is, block_leaves c.args.own c.in-Block.items c.in-Block.at, ← c.deref.ensures.value) c.items_leave-left.ensures

pub leaves-returns-in-Switch : goal.leaves-returns-in-Switch
leaves-returns-in-Switch t c =
    rw (c.in-Switch.is, switch_leaves c.args.own c.in-Switch.test c.in-Switch.items c.in-Switch.at, ← c.deref-in-Switch.ensures.value) c.items_leave-left-in-Switch.ensures
