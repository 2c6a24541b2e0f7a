use Rattle.std.proofs.Common.{◌≡◌, ap, sym, ◌∙◌, subst, IfOk, arith}
use Rattle.std.proofs.lemmas.List.{drop_all}
use Rattle.c_tree.specs.Tree.{NoItem}
use Rattle.c_tree.specs.View.{items_of, statement_of}
use Rattle.c_tree.proofs.Rows.{block_view, switch_view}
use Rattle.types_rules.specs.Limits.{Tally, tally_items, tally_statement}
use Rattle.c_types.specs.Tally.{tally_item, tally_said}
use Rattle.c_types.proofs.Tallies.{tally_each, tally_items-each}
use Rattle.c_types.proofs.tally.+statements.Goals as goal

pub tally_items-returns : goal.tally_items-returns
tally_items-returns t c =
    let given = c.args.items.now in
    sym (tally_items-each NoItem given ∙ c.loop-item.invariant ∙ ap (λ xs. tally_each tally_item xs (tally_said c.loop-item.tally)) (drop_all c.loop-item.item-index given (omega (arith, c.loop-item-test.false))))

pub tally_statement-returns-in-Block : goal.tally_statement-returns-in-Block
tally_statement-returns-in-Block t c =
    let P : Tally → Type 0 = λ x. IfOk c.tally_items.result (λ y. tally_said y ≡ x) in
    let whole = ap tally_statement (block_view c.in-Block.items c.in-Block.at) in
    let same = ap (λ xs. tally_items (items_of NoItem xs)) c.deref.ensures.value ∙ sym whole ∙ ap (λ s. tally_statement (statement_of s)) (sym c.in-Block.is) in
    subst P same c.tally_items.ensures

pub tally_statement-returns-in-Switch : goal.tally_statement-returns-in-Switch
tally_statement-returns-in-Switch t c =
    let P : Tally → Type 0 = λ x. IfOk c.tally_items-in-Switch.result (λ y. tally_said y ≡ x) in
    let whole = ap tally_statement (switch_view c.in-Switch.test c.in-Switch.items c.in-Switch.at) in
    let same = ap (λ xs. tally_items (items_of NoItem xs)) c.deref-in-Switch.ensures.value ∙ sym whole ∙ ap (λ s. tally_statement (statement_of s)) (sym c.in-Switch.is) in
    subst P same c.tally_items-in-Switch.ensures
