use Rattle.std.proofs.Common.{◌∙◌, subst, sym}
use Rattle.c_tree.specs.Size.{Fits, size_object}
use Rattle.c_tree.specs.Tree.{Nothing}
use Rattle.c_tree.specs.View.{object_of}
use Rattle.c_tree.proofs.Sizes.{loop_end, loop_next, size_row-row_of}
use Rattle.c_tree.proofs.measure.measure_objects.Goals as goal

pub measure_object-requires : goal.measure_object-requires
measure_object-requires c =
    let whole = size_row-row_of size_object object_of Nothing c.args.objects.now in
    let next = loop_next (λ x. size_object (object_of x)) c.loop-object.sum c.args.objects.now c.loop-object.object-index c.object-item.result _ c.loop-object-test.true c.object-item.is (subst Fits whole c.requires) c.loop-object.invariant in
    next.fits

pub beside-sum-requires : goal.beside-sum-requires
beside-sum-requires c =
    let whole = size_row-row_of size_object object_of Nothing c.args.objects.now in
    let next = loop_next (λ x. size_object (object_of x)) c.loop-object.sum c.args.objects.now c.loop-object.object-index c.object-item.result _ c.loop-object-test.true c.object-item.is (subst Fits whole c.requires) c.loop-object.invariant in
    rw c.measure_object.ensures next.both

pub returns : goal.returns
returns c = loop_end (λ x. size_object (object_of x)) c.loop-object.sum c.args.objects.now c.loop-object.object-index _ c.loop-object-test.false c.loop-object.invariant ∙ sym (size_row-row_of size_object object_of Nothing c.args.objects.now)
