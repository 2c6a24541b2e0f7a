use Rattle.std.proofs.Common.{◌≡◌, ◌+◌, ap, arith, drop, sym, ◌∙◌}
use Rattle.std.proofs.Math.ListN.{drop_of_length-le}
use Rattle.std.proofs.lemmas.Result.{MatchResult-weaker}
use Rattle.types_tree.specs.Tree.{If, IfElse, Switch}
use Rattle.types_tree.specs.View.{expr_of, items_of, statement_of}
use Rattle.high_code.specs.Code.{joined}
use Rattle.plan_definition.specs.Statements.{all_planned, parts_planned, planned}
use Rattle.make_pieces.proofs.Lists.{joined_end}
use Rattle.make_pieces.specs.View.{code_of}
use Rattle.make_statement.specs.Parts.{labels_in, parts_of}
use Rattle.make_statement.specs.Planned.{exits_of, item_planned, plan_said}
use Rattle.make_statement.proofs.Items.{joined_none, one_part, one_planned, part_more}
use Rattle.make_statement.proofs.Measures.{size_at, size_of_block, size_of_switch}
use Rattle.make_statement.proofs.Rows.{block_planned, switch_planned}
use Rattle.make_statement.proofs.walk.+statements.Goals as goal

pub all_planned-and_item-requires : goal.all_planned-and_item-requires
all_planned-and_item-requires t c =
    (omega (arith, c.decreases, size_at c.args.items.now c.loop-item.item-index c.item-item.result c.loop-item-test.true c.item-item.is), c.requires)

pub all_planned-loop-item-preserved : goal.all_planned-loop-item-preserved
all_planned-loop-item-preserved t c =
    one_planned (plan_said c.args.plan.now) c.args.items.now c.loop-item.item-index c.item-item.result c.args.k (exits_of c.args.exits) (code_of c.loop-item.code) (code_of c.in_ok-code.code) c.loop-item-test.true c.item-item.is c.in_ok-code.ensures
    ∙ c.loop-item.invariant

pub all_planned-returns : goal.all_planned-returns
all_planned-returns t c =
    sym (joined_end (code_of c.loop-item.code))
    ∙ sym (ap (λ xs. joined (code_of c.loop-item.code) (all_planned (plan_said c.args.plan.now) (items_of xs) c.args.k (exits_of c.args.exits))) (drop_of_length-le c.args.items.now c.loop-item-test.false))
    ∙ c.loop-item.invariant

pub and_item-returns-in-Restriction : goal.and_item-returns-in-Restriction
and_item-returns-in-Restriction t c =
    joined_none (code_of c.args.before) (item_planned (plan_said c.args.plan.now) c.args.item.now c.args.k (exits_of c.args.exits)) (ap (λ x. item_planned (plan_said c.args.plan.now) x c.args.k (exits_of c.args.exits)) c.in-Restriction.is)

pub and_item-returns-in-Label : goal.and_item-returns-in-Label
and_item-returns-in-Label t c =
    joined_none (code_of c.args.before) (item_planned (plan_said c.args.plan.now) c.args.item.now c.args.k (exits_of c.args.exits)) (ap (λ x. item_planned (plan_said c.args.plan.now) x c.args.k (exits_of c.args.exits)) c.in-Label.is)

pub parts-parts_behind-requires : goal.parts-parts_behind-requires
parts-parts_behind-requires t c =
    (omega (arith, c.decreases, size_at c.args.items.now c.loop-item.item-index c.item-item.result c.loop-item-test.true c.item-item.is), c.requires)

pub parts-loop-item-preserved : goal.parts-loop-item-preserved
parts-loop-item-preserved t c =
    let plan = plan_said c.args.plan.now in
    let exits = exits_of c.args.exits in
    let next : c.in_ok-parts.parts.number + 1 ≡ c.loop-item.parts.number + 1 + labels_in c.item-item.result = omega (arith, c.in_ok-parts.ensures.number) in
    c.in_ok-parts.ensures.parts (parts_planned plan (items_of (drop (c.loop-item.item-index + 1) c.args.items.now)) c.args.noted (c.in_ok-parts.parts.number + 1) c.args.k exits)
    ∙ one_part plan c.args.items.now c.loop-item.item-index c.item-item.result c.args.noted (c.loop-item.parts.number + 1) (c.in_ok-parts.parts.number + 1) c.args.k exits (parts_of c.args.noted c.loop-item.parts) c.loop-item-test.true c.item-item.is next
    ∙ c.loop-item.invariant

pub parts_behind-returns-in-Ok-clause-parts : goal.parts_behind-returns-in-Ok-clause-parts
parts_behind-returns-in-Ok-clause-parts t c = λ left.
    part_more (plan_said c.args.plan.now) c.args.noted c.args.parts.number (c.args.parts.number + 1) c.args.k c.args.item.now (exits_of c.args.exits) (code_of c.args.parts.done) (code_of c.args.parts.part) (code_of c.in-Ok.part) left
    (sym c.is_label.ensures ∙ c.if-is_label.false) c.in-Ok.ensures

pub planned-all_planned-requires : goal.planned-all_planned-requires
planned-all_planned-requires t c =
    (omega (arith, c.decreases, size_of_block c.args.statement.now c.in-Block.items c.in-Block.at c.deref.result.now c.in-Block.is c.deref.ensures.value), c.requires)

pub planned-returns-in-Block : goal.planned-returns-in-Block
planned-returns-in-Block t c =
    MatchResult-weaker c.all_planned.result c.all_planned.ensures (λ code made.
    made
    ∙ ap (λ xs. all_planned (plan_said c.args.plan.now) (items_of xs) c.args.k (exits_of c.args.exits)) c.deref.ensures.value
    ∙ sym (block_planned (plan_said c.args.plan.now) c.args.statement.now c.in-Block.items c.in-Block.at c.args.k (exits_of c.args.exits) c.in-Block.is)) (λ memory no_code. no_code)

pub planned-returns-in-If : goal.planned-returns-in-If
planned-returns-in-If t c =
    let plan = plan_said c.args.plan.now in
    MatchResult-weaker c.chosen_if.result c.chosen_if.ensures (λ code made.
    made c.in-If.at
    ∙ ap (λ s. planned plan (If (expr_of c.in-If.test) (statement_of s) c.in-If.at) c.args.k (exits_of c.args.exits)) c.deref-in-If.ensures
    ∙ sym (ap (λ s. planned plan (statement_of s) c.args.k (exits_of c.args.exits)) c.in-If.is)) (λ memory no_code. no_code)

pub planned-returns-in-IfElse : goal.planned-returns-in-IfElse
planned-returns-in-IfElse t c =
    let plan = plan_said c.args.plan.now in
    MatchResult-weaker c.chosen_else.result c.chosen_else.ensures (λ code made.
    made c.in-IfElse.at
    ∙ ap (λ s. planned plan (IfElse (expr_of c.in-IfElse.test) (statement_of s) (statement_of c.deref-in-IfElse-2.result.now) c.in-IfElse.at) c.args.k (exits_of c.args.exits)) c.deref-in-IfElse.ensures
    ∙ ap (λ s. planned plan (IfElse (expr_of c.in-IfElse.test) (statement_of c.in-IfElse.then.value) (statement_of s) c.in-IfElse.at) c.args.k (exits_of c.args.exits)) c.deref-in-IfElse-2.ensures
    ∙ sym (ap (λ s. planned plan (statement_of s) c.args.k (exits_of c.args.exits)) c.in-IfElse.is)) (λ memory no_code. no_code)

pub planned-chosen_part-requires : goal.planned-chosen_part-requires
planned-chosen_part-requires t c =
    (omega (arith, c.decreases, size_of_switch c.args.statement.now c.in-Switch.test c.in-Switch.items c.in-Switch.at c.deref-in-Switch.result.now c.in-Switch.is c.deref-in-Switch.ensures.value), c.requires)

pub planned-returns-in-Switch : goal.planned-returns-in-Switch
planned-returns-in-Switch t c =
    let plan = plan_said c.args.plan.now in
    MatchResult-weaker c.chosen_part.result c.chosen_part.ensures (λ code made.
    made c.in-Switch.at
    ∙ ap (λ xs. planned plan (Switch (expr_of c.in-Switch.test) (items_of xs) c.in-Switch.at) c.args.k (exits_of c.args.exits)) c.deref-in-Switch.ensures.value
    ∙ sym (switch_planned plan c.args.statement.now c.in-Switch.test c.in-Switch.items c.in-Switch.at c.args.k (exits_of c.args.exits) c.in-Switch.is)) (λ memory no_code. no_code)
