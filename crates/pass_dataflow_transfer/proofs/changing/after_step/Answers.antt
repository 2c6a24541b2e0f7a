use Rattle.pass_dataflow_transfer.proofs.Facts.{steps_other, steps_own, taken_out}
use Rattle.pass_dataflow_facts.proofs.Modulo.{same_sum}
use Rattle.std.proofs.Common.{refl, ◌∙◌}
use Rattle.pass_dataflow_facts.specs.Facts.{number_in}
use Rattle.pass_dataflow_facts.specs.Forms.{form_value}
use Rattle.std.specs.Prelude.{Some, slice_set}
use Rattle.pass_dataflow_transfer.proofs.changing.after_step.Goals as goal

pub returns-then-fact-register : goal.returns-then-fact-register
returns-then-fact-register c = λ s v grows known.
    let d = c.args.register in
    let by = c.args.by in
    let f = c.args.fact in
    let now = number_in (slice_set s d (Some v)) in
    let out = taken_out s d by v f.form c.moved-left.result c.factor.result c.opposite.result grows c.factor.ensures c.opposite.ensures c.moved-left.ensures.value in
    steps_own s d by v f c.moved-form.result c.if-fact-register.true grows
    (c.moved-form.ensures.value now ∙ same_sum (form_value now c.moved-left.result) (form_value (number_in s) f.form) by by out refl) known

pub returns : goal.returns
returns c = λ s v grows known.
    let d = c.args.register in
    let by = c.args.by in
    let f = c.args.fact in
    steps_other s d by v f c.moved-left.result c.if-fact-register.false
    (taken_out s d by v f.form c.moved-left.result c.factor.result c.opposite.result grows c.factor.ensures c.opposite.ensures c.moved-left.ensures.value) known
