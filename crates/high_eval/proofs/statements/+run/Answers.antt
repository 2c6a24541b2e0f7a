use Rattle.std.proofs.Common.{◌≡◌, ◌+◌, ◌-◌, IfOk, Some, ap, arith, subst, suc, sym, ◌∙◌}
use Rattle.high_ir.specs.Meaning.{pass, then_do}
use Rattle.high_ir.specs.Runs.{given}
use Rattle.high_ir.specs.Tree.{Seq}
use Rattle.high_ir.specs.View.{statement_of, statements_of}
use Rattle.high_ir.proofs.Rows.{statement_of-Seq}
use Rattle.high_eval.specs.Ends.{outcome_of, run_with}
use Rattle.high_eval.proofs.Calling.{call_is, given_of-same, turns_step}
use Rattle.high_eval.proofs.Room.{nodes-Seq, nodes_within}
use Rattle.high_eval.proofs.statements.+run.Goals as goal

pub run_statement-run_statements-requires : goal.run_statement-run_statements-requires
run_statement-run_statements-requires t c =
    (omega (arith, c.decreases, nodes-Seq c.args.statement.now c.in-Seq.parts c.deref.result.now c.in-Seq.is c.deref.ensures.value), tt)

pub run_statement-returns-in-Seq : goal.run_statement-returns-in-Seq
run_statement-returns-in-Seq t c =
    let does = run_with c.args.scope.now.functions.now c.args.scope.now.depth c.args.scope.now.passed.now in
    let same = ap statement_of c.in-Seq.is ∙ statement_of-Seq c.in-Seq.parts ∙ ap (λ xs. Seq (statements_of xs)) (sym c.deref.ensures.value) in
    subst (λ o. IfOk c.run_statements.result (λ e. o ≡ outcome_of e c.run_statements.new.state)) (sym (ap (λ s. does s c.args.state.now) same)) c.run_statements.ensures

pub run_statements-run_statement-requires : goal.run_statements-run_statement-requires
run_statements-run_statement-requires t c =
    (omega (arith, c.decreases, nodes_within c.args.parts.now c.loop-part.part-index c.part-item.result c.loop-part-test.true c.part-item.is), tt)

pub repeat-loop-preserved : goal.repeat-loop-preserved
repeat-loop-preserved t c =
    let body = run_with c.args.scope.now.functions.now c.args.scope.now.depth c.args.scope.now.passed.now (statement_of c.args.body.now) in
    let one : c.args.max - c.loop.counter ≡ suc (c.args.max - (c.loop.counter + 1)) = omega (arith, c.loop-test.true) in
    let less : c.saturating_sub-owed.result ≡ c.loop.owed - 1 = c.saturating_sub-owed.ensures in
    let goes = c.in_ok-run_statement.ensures ∙ ap (λ e. outcome_of e c.run_statement.new.state) c.in-Goes.is in
    sym (turns_step (c.args.max - c.loop.counter) (c.args.max - (c.loop.counter + 1)) c.loop.owed c.saturating_sub-owed.result body c.loop.state c.run_statement.new.state one less goes) ∙ c.loop.invariant

pub call-returns-clause-given : goal.call-returns-clause-given
call-returns-clause-given t c =
    let fs = c.args.scope.now.functions.now in
    let h = c.in-Some.function.now in
    let ran = run_with fs (c.args.scope.now.depth - 1) c.args.arrays.now (statement_of h.body) in
    call_is fs c.args.scope.now.depth c.args.number h c.args.values.now c.args.arrays.now c.args.state.now.world c.args.state.now.trace c.if-scope-eq0.false c.in-Some.ensures.lookup.3.0 c.in-Some.ensures.lookup.1 (sym c.takes.ensures ∙ c.if-not-takes.false)
    ∙ ap (λ st. given (then_do (pass (Some c.args.number) st) ran)) (sym (c.exchange-outer.ensures.new ∙ ap (λ vs. record { variables = vs; world = c.args.state.now.world; trace = c.args.state.now.trace }) c.in_ok-frame.ensures))
    ∙ c.in_ok-given.ensures
    ∙ given_of-same c.in_ok-given.given c.run_body.new.state c.exchange.new.self (ap (λ st. st.world) c.exchange.ensures.new) (ap (λ st. st.trace) c.exchange.ensures.new)
