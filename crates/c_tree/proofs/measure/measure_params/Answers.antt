use Rattle.std.proofs.Common.{◌∙◌, subst, sym}
use Rattle.c_tree.specs.Size.{Fits, size_param}
use Rattle.c_tree.specs.Tree.{Nothing}
use Rattle.c_tree.specs.View.{param_of}
use Rattle.c_tree.proofs.Sizes.{loop_end, loop_next, size_row-row_of}
use Rattle.c_tree.proofs.measure.measure_params.Goals as goal

pub measure_param-requires : goal.measure_param-requires
measure_param-requires c =
    let whole = size_row-row_of size_param param_of Nothing c.args.params.now in
    let next = loop_next (λ x. size_param (param_of x)) c.loop-param.sum c.args.params.now c.loop-param.param-index c.param-item.result _ c.loop-param-test.true c.param-item.is (subst Fits whole c.requires) c.loop-param.invariant in
    next.fits

pub beside-sum-requires : goal.beside-sum-requires
beside-sum-requires c =
    let whole = size_row-row_of size_param param_of Nothing c.args.params.now in
    let next = loop_next (λ x. size_param (param_of x)) c.loop-param.sum c.args.params.now c.loop-param.param-index c.param-item.result _ c.loop-param-test.true c.param-item.is (subst Fits whole c.requires) c.loop-param.invariant in
    rw c.measure_param.ensures next.both

pub returns : goal.returns
returns c = loop_end (λ x. size_param (param_of x)) c.loop-param.sum c.args.params.now c.loop-param.param-index _ c.loop-param-test.false c.loop-param.invariant ∙ sym (size_row-row_of size_param param_of Nothing c.args.params.now)
