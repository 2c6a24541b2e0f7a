use Rattle.std.proofs.Common.{◌≡◌, ◌+◌, ◌-◌, IfOk, Some, ap, arith, map, subst, suc, sym, ◌∙◌}
use Rattle.std.specs.Prelude.{slice_get}
use Rattle.types_tree.specs.View.{function_of, items_of, statement_of}
use Rattle.meaning_semantics.specs.Runs.{calls, given_back}
use Rattle.meaning_semantics.specs.State.{Fine, bound, outcome_of, then_do}
use Rattle.meaning_semantics.specs.Statements.{again, again_or, entered, has_case, loop_of, out_of_switch, run_from, run_items, turns}
use Rattle.c_meaning.specs.Scopes.{calls_of, source_of}
use Rattle.c_meaning.proofs.Calling.{call_is, do_run, for_run, function_there, turns_go, while_run}
use Rattle.c_meaning.proofs.Room.{block_size, call_size, expr_within, item_within, items_behind, items_size, object_within, switch_size}
use Rattle.c_meaning.proofs.Vecs.{block_run, call_value, switch_run}
use Rattle.c_meaning.proofs.walk.+walk.Goals as goal

pub declare_objects-initialize-requires : goal.declare_objects-initialize-requires
declare_objects-initialize-requires t c = (omega (arith, c.decreases, object_within c.args.objects.now c.loop-object.object-index c.object-item.result c.loop-object-test.true c.object-item.is), tt)

pub list-value-requires : goal.list-value-requires
list-value-requires t c = (omega (arith, c.decreases, expr_within c.args.exprs.now c.loop-expr.expr-index c.expr-item.result c.loop-expr-test.true c.expr-item.is), tt)

pub values-value-requires : goal.values-value-requires
values-value-requires t c = (omega (arith, c.decreases, expr_within c.args.exprs.now c.loop-expr.expr-index c.expr-item.result c.loop-expr-test.true c.expr-item.is), tt)

pub run_items-run_item-requires : goal.run_items-run_item-requires
run_items-run_item-requires t c = (omega (arith, c.decreases, item_within c.args.items.now c.loop-item.item-index c.item-item.result c.loop-item-test.true c.item-item.is), tt)

pub run_from-run_items-requires : goal.run_from-run_items-requires
run_from-run_items-requires t c = (omega (arith, c.decreases, items_behind c.args.items.now (c.loop-index.index + 1), ap (λ l. items_size (items_of l)) c.behind.ensures), tt)

pub value-call_value-requires : goal.value-call_value-requires
value-call_value-requires t c = (omega (arith, c.decreases, call_size c.args.expr.now c.in-Call.callee c.in-Call.arguments c.in-Call.at c.deref-in-Call.result.now c.in-Call.is c.deref-in-Call.ensures.value), tt)

pub value-returns-in-Call : goal.value-returns-in-Call
value-returns-in-Call t c =
    let scope = c.args.scope.now in
    let same = call_value scope.program.now.variables.items (calls_of scope) c.args.expr.now c.in-Call.callee c.in-Call.arguments c.in-Call.at c.deref-in-Call.result.now c.args.used c.args.state.now c.in-Call.is c.deref-in-Call.ensures.value in
    subst (λ o. IfOk c.call_value.result (λ r. o ≡ outcome_of r c.call_value.new.state)) (sym same) c.call_value.ensures

pub call-returns-in-Ok : goal.call-returns-in-Ok
call-returns-in-Ok t c =
    let scope = c.args.scope.now in
    let words = c.args.words.now in
    let f = c.in-Some.function.now in
    let xs = c.deref-in-Ok.result.now in
    let there = subst (λ fs. slice_get (map function_of fs) c.args.number ≡ Some (function_of f)) c.deref.ensures.value (function_there c.deref.result.now c.args.number f c.in-Some.ensures.lookup.3.0 c.in-Some.ensures.lookup.1) in
    let begins = ap (bound f.first.0 c.args.at words) (sym c.in_ok-count.ensures) ∙ c.bind.ensures ∙ ap (λ r. outcome_of r c.bind.new.self) c.in-Ok.is in
    let same = call_is (source_of scope) scope.depth c.args.number f xs words c.args.at c.args.state.now c.if-scope-eq0.false there c.deref-in-Ok.ensures.value
    ∙ ap (λ o. then_do o (λ flow st1. then_do (run_items (source_of scope) (calls (source_of scope) (scope.depth - 1)) (items_of xs) (entered (items_of xs) st1)) (λ flow st2. Fine (given_back flow) st2))) begins in
    subst (λ o. IfOk c.run_body.result (λ r. o ≡ outcome_of r c.run_body.new.state)) (sym same) c.run_body.ensures

pub repeat-loop-preserved : goal.repeat-loop-preserved
repeat-loop-preserved t c =
    let scope = c.args.scope.now in
    let loop = loop_of (source_of scope) (calls_of scope) (statement_of c.args.of.now) c.args.at in
    let end = c.bounds_at-bounds.result.max in
    let n = end - (c.loop.counter + 1) in
    let owed = c.saturating_sub-owed.result in
    let one : end - c.loop.counter ≡ suc n = omega (arith, c.loop-test.true) in
    let test = c.in_ok-stop.ensures ∙ ap (λ r. outcome_of r c.test.new.state) c.in-Ok.is in
    let goes = turns_go loop (end - c.loop.counter) n c.loop.owed owed c.in-Ok.field-0 c.loop.state c.test.new.state one c.saturating_sub-owed.ensures test c.in-Ok.field-0-test.1
    ∙ ap (λ o. then_do o (again owed c.args.at (turns loop n owed))) (c.in_ok-stop-2.ensures ∙ ap (λ r. outcome_of r c.round.new.state) c.in-Ok-2.is)
    ∙ ap (λ l. again_or owed c.args.at (turns loop n owed) l c.round.new.state) (sym c.leaving.ensures ∙ c.in_default.is) in
    sym goes ∙ c.loop.invariant

pub repeat-returns-in-Err-2 : goal.repeat-returns-in-Err-2
repeat-returns-in-Err-2 t c =
    let scope = c.args.scope.now in
    let loop = loop_of (source_of scope) (calls_of scope) (statement_of c.args.of.now) c.args.at in
    let end = c.bounds_at-bounds.result.max in
    let n = end - (c.loop.counter + 1) in
    let owed = c.saturating_sub-owed.result in
    let one : end - c.loop.counter ≡ suc n = omega (arith, c.loop-test.true) in
    let test = c.in_ok-stop.ensures ∙ ap (λ r. outcome_of r c.test.new.state) c.in-Ok.is in
    sym c.loop.invariant
    ∙ turns_go loop (end - c.loop.counter) n c.loop.owed owed c.in-Ok.field-0 c.loop.state c.test.new.state one c.saturating_sub-owed.ensures test c.in-Ok.field-0-test.1
    ∙ ap (λ o. then_do o (again owed c.args.at (turns loop n owed))) (c.in_ok-stop-2.ensures ∙ ap (λ r. outcome_of r c.round.new.state) c.in-Err-2.is)

pub repeat-returns-in-Some : goal.repeat-returns-in-Some
repeat-returns-in-Some t c =
    let scope = c.args.scope.now in
    let loop = loop_of (source_of scope) (calls_of scope) (statement_of c.args.of.now) c.args.at in
    let end = c.bounds_at-bounds.result.max in
    let n = end - (c.loop.counter + 1) in
    let owed = c.saturating_sub-owed.result in
    let one : end - c.loop.counter ≡ suc n = omega (arith, c.loop-test.true) in
    let test = c.in_ok-stop.ensures ∙ ap (λ r. outcome_of r c.test.new.state) c.in-Ok.is in
    sym c.loop.invariant
    ∙ turns_go loop (end - c.loop.counter) n c.loop.owed owed c.in-Ok.field-0 c.loop.state c.test.new.state one c.saturating_sub-owed.ensures test c.in-Ok.field-0-test.1
    ∙ ap (λ o. then_do o (again owed c.args.at (turns loop n owed))) (c.in_ok-stop-2.ensures ∙ ap (λ r. outcome_of r c.round.new.state) c.in-Ok-2.is)
    ∙ ap (λ l. again_or owed c.args.at (turns loop n owed) l c.round.new.state) (sym c.leaving.ensures ∙ c.in-Some.is)
    ∙ c.leave-in-Some.ensures c.round.new.state

pub run-run_items-requires : goal.run-run_items-requires
run-run_items-requires t c = (omega (arith, c.decreases, block_size c.args.statement.now c.in-Block.items c.in-Block.at c.deref-in-Block.result.now c.in-Block.is c.deref-in-Block.ensures.value), tt)

pub run-choose-requires : goal.run-choose-requires
run-choose-requires t c = (omega (arith, c.decreases, switch_size c.args.statement.now c.in-Switch.test c.in-Switch.items c.in-Switch.at c.deref-in-Ok-4.result.now c.in-Switch.is c.deref-in-Ok-4.ensures.value), tt)

pub run-returns-in-Block : goal.run-returns-in-Block
run-returns-in-Block t c =
    let scope = c.args.scope.now in
    let st = c.args.state.now in
    let xs = c.deref-in-Block.result.now in
    let enters = c.enter.ensures ∙ ap (λ l. entered (items_of l) st) (c.deref.ensures.value ∙ sym c.deref-in-Block.ensures.value) in
    let same = block_run (source_of scope) (calls_of scope) c.args.statement.now c.in-Block.items c.in-Block.at xs st c.in-Block.is c.deref-in-Block.ensures.value
    ∙ ap (run_items (source_of scope) (calls_of scope) (items_of xs)) (sym enters) in
    subst (λ o. IfOk c.run_items.result (λ r. o ≡ outcome_of r c.run_items.new.state)) (sym same) c.run_items.ensures

pub run-returns-in-While : goal.run-returns-in-While
run-returns-in-While t c =
    let scope = c.args.scope.now in
    let same = while_run (source_of scope) (calls_of scope) (statement_of c.args.statement.now) _ _ _ _ _ c.args.state.now (ap statement_of c.in-While.is) in
    subst (λ o. IfOk c.repeat.result (λ r. o ≡ outcome_of r c.repeat.new.state)) (sym same) c.repeat.ensures

pub run-returns-in-Do : goal.run-returns-in-Do
run-returns-in-Do t c =
    let scope = c.args.scope.now in
    let same = do_run (source_of scope) (calls_of scope) (statement_of c.args.statement.now) _ _ _ _ _ c.args.state.now (ap statement_of c.in-Do.is) in
    subst (λ o. IfOk c.repeat-in-Do.result (λ r. o ≡ outcome_of r c.repeat-in-Do.new.state)) (sym same) c.repeat-in-Do.ensures

pub run-returns-in-Ok-3 : goal.run-returns-in-Ok-3
run-returns-in-Ok-3 t c =
    let scope = c.args.scope.now in
    let begins = c.in_ok-stop-in-For.ensures ∙ ap (λ r. outcome_of r c.begin.new.state) c.in-Ok-3.is in
    let same = for_run (source_of scope) (calls_of scope) (statement_of c.args.statement.now) _ _ _ _ _ _ _ c.args.state.now c.begin.new.state c.in-Ok-3.field-0 (ap statement_of c.in-For.is) begins in
    subst (λ o. IfOk c.repeat-in-Ok-3.result (λ r. o ≡ outcome_of r c.repeat-in-Ok-3.new.state)) (sym same) c.repeat-in-Ok-3.ensures

pub run-returns-in-Ok-4 : goal.run-returns-in-Ok-4
run-returns-in-Ok-4 t c =
    let source = source_of c.args.scope.now in
    let calls = calls_of c.args.scope.now in
    let xs = c.deref-in-Ok-4.result.now in
    let tests = c.in_ok-stop-in-Switch.ensures ∙ ap (λ r. outcome_of r c.value-in-Switch.new.state) c.in-Ok-4.is in
    let same = switch_run source calls c.args.statement.now c.in-Switch.test c.in-Switch.items c.in-Switch.at xs c.args.state.now c.in-Switch.is c.deref-in-Ok-4.ensures.value
    ∙ ap (λ o. then_do o (λ word st1. then_do (run_from source calls (has_case word (items_of xs)) word (items_of xs) (entered (items_of xs) st1)) out_of_switch)) tests in
    subst (λ o. IfOk c.choose.result (λ r. o ≡ outcome_of r c.choose.new.state)) (sym same) c.choose.ensures
