use Rattle.std.proofs.Common.{arith, ap, subst, sym, ◌∙◌}
use Rattle.c_tree.specs.Size.{Fits, beside, over, size, size_items}
use Rattle.c_tree.specs.Tree.{NoItem}
use Rattle.c_tree.specs.View.{expr_of, item_size, items_of}
use Rattle.c_tree.proofs.Sizes.{block_size, fits_right, fits_under, loop_end, loop_next, size_items-items_of, switch_size}
use Rattle.c_tree.proofs.measure.+statements.Goals as goal

pub measure_items-measure_item-requires : goal.measure_items-measure_item-requires
measure_items-measure_item-requires t c =
    let whole = size_items-items_of NoItem c.args.items.now in
    let next = loop_next item_size c.loop-item.sum c.args.items.now c.loop-item.item-index c.item-item.result _ c.loop-item-test.true c.item-item.is (subst Fits whole c.requires) c.loop-item.invariant in
    (omega (arith, c.decreases, next.fewer, ap (λ s. s.nodes) whole), next.fits)

pub measure_items-beside-sum-requires : goal.measure_items-beside-sum-requires
measure_items-beside-sum-requires t c =
    let whole = size_items-items_of NoItem c.args.items.now in
    let next = loop_next item_size c.loop-item.sum c.args.items.now c.loop-item.item-index c.item-item.result _ c.loop-item-test.true c.item-item.is (subst Fits whole c.requires) c.loop-item.invariant in
    rw c.measure_item.ensures next.both

pub measure_items-returns : goal.measure_items-returns
measure_items-returns t c = loop_end item_size c.loop-item.sum c.args.items.now c.loop-item.item-index _ c.loop-item-test.false c.loop-item.invariant ∙ sym (size_items-items_of NoItem c.args.items.now)

pub measure_statement-measure_items-requires : goal.measure_statement-measure_items-requires
measure_statement-measure_items-requires t c =
    let same = block_size c.args.statement.now c.in-Block.items c.in-Block.at c.in-Block.is ∙ ap (λ xs. over (size_items (items_of NoItem xs))) (sym c.deref.ensures.value) in
    (omega (arith, c.decreases, ap (λ s. s.nodes) same), fits_under _ (subst Fits same c.requires))

pub measure_statement-over-requires : goal.measure_statement-over-requires
measure_statement-over-requires t c =
    let same = block_size c.args.statement.now c.in-Block.items c.in-Block.at c.in-Block.is ∙ ap (λ xs. over (size_items (items_of NoItem xs))) (sym c.deref.ensures.value) ∙ ap over (sym c.measure_items.ensures) in
    subst Fits same c.requires

pub measure_statement-returns-in-Block : goal.measure_statement-returns-in-Block
measure_statement-returns-in-Block t c =
    c.over.ensures ∙ ap over c.measure_items.ensures ∙ ap (λ xs. over (size_items (items_of NoItem xs))) c.deref.ensures.value ∙ sym (block_size c.args.statement.now c.in-Block.items c.in-Block.at c.in-Block.is)

pub measure_statement-measure_items-requires-in-Switch : goal.measure_statement-measure_items-requires-in-Switch
measure_statement-measure_items-requires-in-Switch t c =
    let same = switch_size c.args.statement.now c.in-Switch.test c.in-Switch.items c.in-Switch.at c.in-Switch.is ∙ ap (λ xs. over (beside (size (expr_of c.in-Switch.test)) (size_items (items_of NoItem xs)))) (sym c.deref-in-Switch.ensures.value) in
    (omega (arith, c.decreases, ap (λ s. s.nodes) same), fits_right _ _ (fits_under _ (subst Fits same c.requires)))

pub measure_statement-beside-requires-in-Switch : goal.measure_statement-beside-requires-in-Switch
measure_statement-beside-requires-in-Switch t c =
    let same = switch_size c.args.statement.now c.in-Switch.test c.in-Switch.items c.in-Switch.at c.in-Switch.is ∙ ap (λ xs. over (beside (size (expr_of c.in-Switch.test)) (size_items (items_of NoItem xs)))) (sym c.deref-in-Switch.ensures.value) in
    rw (c.measure_expr-in-Switch.ensures, c.measure_items-in-Switch.ensures) (fits_under _ (subst Fits same c.requires))

pub measure_statement-over-requires-in-Switch : goal.measure_statement-over-requires-in-Switch
measure_statement-over-requires-in-Switch t c =
    let same = switch_size c.args.statement.now c.in-Switch.test c.in-Switch.items c.in-Switch.at c.in-Switch.is ∙ ap (λ xs. over (beside (size (expr_of c.in-Switch.test)) (size_items (items_of NoItem xs)))) (sym c.deref-in-Switch.ensures.value) in
    rw (c.beside-in-Switch.ensures, c.measure_expr-in-Switch.ensures, c.measure_items-in-Switch.ensures) (subst Fits same c.requires)

pub measure_statement-returns-in-Switch : goal.measure_statement-returns-in-Switch
measure_statement-returns-in-Switch t c =
    rw (c.over-in-Switch.ensures, c.beside-in-Switch.ensures, c.measure_expr-in-Switch.ensures, c.measure_items-in-Switch.ensures, c.deref-in-Switch.ensures.value)
    (sym (switch_size c.args.statement.now c.in-Switch.test c.in-Switch.items c.in-Switch.at c.in-Switch.is))
