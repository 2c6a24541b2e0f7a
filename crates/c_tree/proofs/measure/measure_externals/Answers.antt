use Rattle.std.proofs.Common.{◌∙◌, subst, sym}
use Rattle.c_tree.specs.Size.{Fits, size_external}
use Rattle.c_tree.specs.Tree.{Nothing}
use Rattle.c_tree.specs.View.{external_of}
use Rattle.c_tree.proofs.Sizes.{loop_end, loop_next, size_row-row_of}
use Rattle.c_tree.proofs.measure.measure_externals.Goals as goal

pub measure_external-requires : goal.measure_external-requires
measure_external-requires c =
    let whole = size_row-row_of size_external external_of Nothing c.args.externals.now in
    let next = loop_next (λ x. size_external (external_of x)) c.loop-external.sum c.args.externals.now c.loop-external.external-index c.external-item.result _ c.loop-external-test.true c.external-item.is (subst Fits whole c.requires) c.loop-external.invariant in
    next.fits

pub beside-sum-requires : goal.beside-sum-requires
beside-sum-requires c =
    let whole = size_row-row_of size_external external_of Nothing c.args.externals.now in
    let next = loop_next (λ x. size_external (external_of x)) c.loop-external.sum c.args.externals.now c.loop-external.external-index c.external-item.result _ c.loop-external-test.true c.external-item.is (subst Fits whole c.requires) c.loop-external.invariant in
    rw c.measure_external.ensures next.both

pub returns : goal.returns
returns c = loop_end (λ x. size_external (external_of x)) c.loop-external.sum c.args.externals.now c.loop-external.external-index _ c.loop-external-test.false c.loop-external.invariant ∙ sym (size_row-row_of size_external external_of Nothing c.args.externals.now)
