use Rattle.std.proofs.Common.{arith, ap, subst, sym, ◌∙◌}
use Rattle.c_tree.specs.Size.{Fits, over, size, size_all}
use Rattle.c_tree.specs.Tree.{NoExpr}
use Rattle.c_tree.specs.View.{expr_of, exprs_of}
use Rattle.c_tree.proofs.Sizes.{call_size, fits_under, loop_end, loop_next, size_all-exprs_of}
use Rattle.c_tree.proofs.measure.+exprs.Goals as goal

pub measure_expr-measure_exprs-requires : goal.measure_expr-measure_exprs-requires
measure_expr-measure_exprs-requires t c =
    let same = call_size c.args.expr.now c.in-Call.function c.in-Call.arguments c.in-Call.at c.in-Call.is ∙ ap (λ es. over (size_all (exprs_of NoExpr es))) (sym c.deref-in-Call.ensures.value) in
    (omega (arith, c.decreases, ap (λ s. s.nodes) same), fits_under _ (subst Fits same c.requires))

pub measure_expr-over-requires-in-Call : goal.measure_expr-over-requires-in-Call
measure_expr-over-requires-in-Call t c =
    let same = call_size c.args.expr.now c.in-Call.function c.in-Call.arguments c.in-Call.at c.in-Call.is ∙ ap (λ es. over (size_all (exprs_of NoExpr es))) (sym c.deref-in-Call.ensures.value) ∙ ap over (sym c.measure_exprs.ensures) in
    subst Fits same c.requires

pub measure_expr-returns-in-Call : goal.measure_expr-returns-in-Call
measure_expr-returns-in-Call t c =
    c.over-in-Call.ensures ∙ ap over c.measure_exprs.ensures ∙ ap (λ es. over (size_all (exprs_of NoExpr es))) c.deref-in-Call.ensures.value ∙ sym (call_size c.args.expr.now c.in-Call.function c.in-Call.arguments c.in-Call.at c.in-Call.is)

pub measure_exprs-measure_expr-requires : goal.measure_exprs-measure_expr-requires
measure_exprs-measure_expr-requires t c =
    let whole = size_all-exprs_of NoExpr c.args.exprs.now in
    let next = loop_next (λ e. size (expr_of e)) c.loop-expr.sum c.args.exprs.now c.loop-expr.expr-index c.expr-item.result _ c.loop-expr-test.true c.expr-item.is (subst Fits whole c.requires) c.loop-expr.invariant in
    (omega (arith, c.decreases, next.fewer, ap (λ s. s.nodes) whole), next.fits)

pub measure_exprs-beside-sum-requires : goal.measure_exprs-beside-sum-requires
measure_exprs-beside-sum-requires t c =
    let next = loop_next (λ e. size (expr_of e)) c.loop-expr.sum c.args.exprs.now c.loop-expr.expr-index c.expr-item.result _ c.loop-expr-test.true c.expr-item.is (subst Fits (size_all-exprs_of NoExpr c.args.exprs.now) c.requires) c.loop-expr.invariant in
    rw c.measure_expr.ensures next.both

pub measure_exprs-returns : goal.measure_exprs-returns
measure_exprs-returns t c = loop_end (λ e. size (expr_of e)) c.loop-expr.sum c.args.exprs.now c.loop-expr.expr-index _ c.loop-expr-test.false c.loop-expr.invariant ∙ sym (size_all-exprs_of NoExpr c.args.exprs.now)
