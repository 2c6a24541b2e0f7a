use Rattle.std.proofs.Common.{◌≡◌, refl, ap, ◌∙◌, subst, arith, List}
use Rattle.c_tree.specs.Tree.{NoExpr}
use Rattle.c_tree.specs.View.{expr_of as source_of, exprs_of as sources_of}
use Rattle.c_tree.specs.declared.expression.Expr as sources
use Rattle.types_tree.specs.View.{expr_of}
use Rattle.types_value.specs.Kinds.{is_void}
use Rattle.types_rules.specs.Types.{argument_fits, takes_array}
use Rattle.types_expression.specs.Checked.{AreChecked}
use Rattle.types_expression.specs.Walk.{fault_in}
use Rattle.types_expression.proofs.Arguments.{all_so_far, checked_call, one_more, typed_at}
use Rattle.types_expression.proofs.walk.+checker.Goals as goal

pub check_arguments-loop-i-preserved : goal.check_arguments-loop-i-preserved
check_arguments-loop-i-preserved t c =
    let i = c.loop-i.i in
    let e = c.index-given-i.result in
    let params = c.args.params.now in
    let a = c.args.table.now in
    let checked = c.in_ok-inner.ensures in
    let expr : expr_of c.in_ok-expr.expr.value ≡ typed_at i e params a =
    c.in_ok-expr.ensures ∙ rw (checked.kind, checked.expr, c.takes_array.ensures, c.param_at-param.ensures) refl in
    rw (c.in_ok-push.ensures, c.either-void.ensures, c.both-fit.ensures, c.first_of-fault.ensures)
    (one_more c.args.given.now params a i e c.loop-i.exprs.items c.in_ok-expr.expr.value c.loop-i.void c.loop-i.fit c.is_void.result c.argument_fits.result c.loop-i.fault c.in_ok-inner.inner.fault
    (omega (arith, c.loop-i-test.true)) c.index-given-i.is c.loop-i.invariant expr
    (c.is_void.ensures ∙ ap is_void checked.kind)
    (c.argument_fits.ensures ∙ ap (λ p. argument_fits (source_of e) p a) c.param_at-param.ensures)
    (checked.fault ∙ ap (λ x. fault_in (source_of e) x a) (c.takes_array.ensures ∙ ap takes_array c.param_at-param.ensures)))

pub check_arguments-returns : goal.check_arguments-returns
check_arguments-returns t c =
    all_so_far c.args.given.now c.args.params.now c.args.table.now c.loop-i.i c.loop-i.exprs c.loop-i.void c.loop-i.fit c.both.result c.loop-i.fault
    (omega (arith, c.loop-i-test.false)) c.loop-i.invariant c.both.ensures

pub check_expr-returns-in_ok-call-in-Call : goal.check_expr-returns-in_ok-call-in-Call
check_expr-returns-in_ok-call-in-Call t c =
    let params = c.callee_params-params.result.now in
    let a = c.args.table.now in
    let P : List sources.Expr → Type 0 = λ es. AreChecked c.in_ok-arguments-in-Call.arguments (sources_of NoExpr es) params a in
    let inner = subst P c.deref-in-Call.ensures.value c.in_ok-arguments-in-Call.ensures in
    rw c.in-Call.is
    (checked_call c.in-Call.function c.in-Call.arguments c.in-Call.at c.args.as_array a params c.in_ok-arguments-in-Call.arguments c.in_ok-call-in-Call.call
    c.callee_params-params.ensures inner c.in_ok-call-in-Call.ensures.expr c.in_ok-call-in-Call.ensures.kind c.in_ok-call-in-Call.ensures.fault)
