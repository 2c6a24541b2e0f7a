use Rattle.std.proofs.Common.{map, ap, ◌∙◌}
use Rattle.high_ir.specs.View.{expr_of}
use Rattle.inliner.specs.Measures.{beside, values_measure}
use Rattle.inliner.proofs.Walks.{none-beside, values_done, values_more}
use Rattle.inliner.proofs.measuring.values_measure.Goals as goal

pub loop-value-init : goal.loop-value-init
loop-value-init c = ap (λ m. beside m (values_measure (map expr_of c.args.values.now))) c.none-all.ensures ∙ none-beside (values_measure (map expr_of c.args.values.now))

pub loop-value-preserved : goal.loop-value-preserved
loop-value-preserved c =
    values_more c.loop-value.all _ c.args.values.now c.loop-value.value-index c.value-item.result c.loop-value-test.true c.value-item.is c.in_ok-all.ensures
    ∙ c.loop-value.invariant

pub returns : goal.returns
returns c = values_done c.loop-value.all _ c.args.values.now c.loop-value.value-index c.loop-value-test.false c.loop-value.invariant
