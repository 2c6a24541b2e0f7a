use Rattle.std.proofs.Common.{◌≡◌, refl, ap, ◌∙◌, arith}
use Rattle.c_tree.specs.View.{expr_of as source_of}
use Rattle.types_tree.specs.View.{expr_of}
use Rattle.types_value.specs.Kinds.{is_void}
use Rattle.types_rules.specs.Typing.{value_at}
use Rattle.types_declaration.proofs.Lists.{all_so_far, one_more}
use Rattle.types_declaration.proofs.values.check_values.Goals as goal

pub loop-source-preserved : goal.loop-source-preserved
loop-source-preserved c =
    let e = c.source-item.result in
    let a = c.args.table.now in
    let checked = c.in_ok-inner.ensures in
    let expr : expr_of c.in_ok-expr.expr.value ≡ value_at c.args.kind (source_of e) a = c.in_ok-expr.ensures ∙ rw (checked.kind, checked.expr) refl in
    rw (c.in_ok-push.ensures, c.either-void.ensures, c.first_of-fault.ensures)
    (one_more c.args.kind c.args.given.now a c.loop-source.source-index e c.loop-source.exprs.items c.in_ok-expr.expr.value c.loop-source.void c.is_void.result c.loop-source.fault c.in_ok-inner.inner.fault
    (omega (arith, c.loop-source-test.true)) c.source-item.is c.loop-source.invariant expr (c.is_void.ensures ∙ ap is_void checked.kind) checked.fault)

pub returns : goal.returns
returns c = all_so_far c.args.kind c.args.given.now c.args.table.now c.loop-source.source-index c.loop-source.exprs c.loop-source.void c.loop-source.fault (omega (arith, c.loop-source-test.false)) c.loop-source.invariant
