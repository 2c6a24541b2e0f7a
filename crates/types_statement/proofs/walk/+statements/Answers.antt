use Rattle.std.proofs.Common.{subst, arith, List}
use Rattle.c_tree.specs.Tree.{NoItem}
use Rattle.c_tree.specs.View.{items_of as source_items}
use Rattle.c_tree.specs.declared.statement.Item as sources
use Rattle.types_statement.specs.Checked.{AreItems}
use Rattle.types_statement.specs.Within.{within_said}
use Rattle.types_statement.proofs.Braces.{block_made, switch_made}
use Rattle.types_statement.proofs.ItemLists.{all_so_far, one_more, so_far}
use Rattle.types_statement.proofs.walk.+statements.Goals as goal

pub check_items-loop-source-preserved : goal.check_items-loop-source-preserved
check_items-loop-source-preserved t c =
    let found = c.in_ok-inner.ensures in
    rw (c.in_ok-push.ensures, c.first_of-fault.ensures, c.in_ok-rule.ensures.after)
    (one_more (within_said c.args.within) c.args.given.now c.args.table.now c.loop-source.source-index c.source-item.result c.loop-source.table c.check_item.new.table c.loop-source.items.items c.in_ok-inner.inner.item c.loop-source.labels c.loop-source.fault c.in_ok-inner.inner.fault c.in_ok-rule.rule
    (omega (arith, c.loop-source-test.true)) c.source-item.is c.loop-source.invariant c.in_ok-rule.ensures.rule found.item found.fault found.after)

pub check_items-returns : goal.check_items-returns
check_items-returns t c =
    all_so_far (within_said c.args.within) c.args.given.now c.args.table.now c.loop-source.source-index c.loop-source.table c.loop-source.items c.loop-source.labels c.loop-source.fault (omega (arith, c.loop-source-test.false)) c.loop-source.invariant

pub check_items-loop-source-init : goal.check_items-loop-source-init
check_items-loop-source-init t c = rw (c.new-items.ensures.items, c.new-labels.ensures) (so_far (within_said c.args.within) c.args.given.now c.args.table.now)

pub check_statement-returns-in_ok-inner-in-Block : goal.check_statement-returns-in_ok-inner-in-Block
check_statement-returns-in_ok-inner-in-Block t c =
    let w = within_said c.args.within in
    let b = c.check_items.new.table in
    let P : List sources.Item → Type 0 = λ xs. AreItems c.in_ok-inner-in-Block.inner (source_items NoItem xs) w c.enter.new.self b in
    rw c.in-Block.is
    (block_made c.in-Block.items c.in-Block.at w c.args.table.now c.enter.new.self b c.leave.new.self c.in_ok-inner-in-Block.inner c.make_block.result
    c.in_ok-enter-in-Block.ensures (subst P c.deref.ensures.value c.in_ok-inner-in-Block.ensures) c.leave.ensures c.make_block.ensures.statement c.make_block.ensures.fault)

pub check_statement-returns-in-Ok-check_items : goal.check_statement-returns-in-Ok-check_items
check_statement-returns-in-Ok-check_items t c =
    let w = within_said c.args.within in
    let v = within_said c.in_switch.result in
    let b = c.check_items-in-Switch.new.table in
    let P : List sources.Item → Type 0 = λ xs. AreItems c.in-Ok-check_items.inner (source_items NoItem xs) v c.begin_switch.new.table b in
    rw c.in-Switch.is
    (switch_made c.in-Switch.test c.in-Switch.items c.in-Switch.at w v c.args.table.now c.begin_switch.new.table b c.leave-in-Ok-check_items.new.self c.in_ok-choice-in-Switch.choice c.in-Ok-check_items.inner c.make_switch.result
    c.in_switch.ensures c.in_ok-choice-in-Switch.ensures.after c.in_ok-choice-in-Switch.ensures.choice (subst P c.deref-in-Switch.ensures.value c.in-Ok-check_items.ensures) c.leave-in-Ok-check_items.ensures c.make_switch.ensures.statement c.make_switch.ensures.fault)
