use Rattle.std.proofs.Common.{ap, sym, ◌∙◌}
use Rattle.types_tree.specs.View.{items_of}
use Rattle.plan_definition.specs.Statements.{items_continue}
use Rattle.make_statement.proofs.Rows.{block_continues, switch_continues}
use Rattle.make_statement.proofs.continuing.+continuing.Goals as goal

pub continues-returns-in-Block : goal.continues-returns-in-Block
continues-returns-in-Block t c =
    c.items_continue-any.ensures
    ∙ ap (λ xs. items_continue (items_of xs)) c.deref.ensures.value
    ∙ sym (block_continues c.args.statement.now c.in-Block.items c.in-Block.at c.in-Block.is)

pub continues-returns-in-Switch : goal.continues-returns-in-Switch
continues-returns-in-Switch t c =
    c.items_continue-any-in-Switch.ensures
    ∙ ap (λ xs. items_continue (items_of xs)) c.deref-in-Switch.ensures.value
    ∙ sym (switch_continues c.args.statement.now c.in-Switch.test c.in-Switch.items c.in-Switch.at c.in-Switch.is)
