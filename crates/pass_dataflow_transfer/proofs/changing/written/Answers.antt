use Rattle.std.proofs.Common.{refl, subst, sym, ◌∙◌}
use Rattle.std.specs.Prelude.{Some}
use Rattle.pass_dataflow_facts.specs.Facts.{number}
use Rattle.pass_dataflow_transfer.specs.Learning.{MayMeasure}
use Rattle.pass_dataflow_facts.proofs.Modulo.{same_numbers}
use Rattle.pass_dataflow_transfer.proofs.Facts.{form_spared, written_true}
use Rattle.pass_dataflow_transfer.proofs.changing.written.Goals as goal

pub returns-else-has : goal.returns-else-has
returns-else-has c = λ s v low is.
    written_true s c.args.register v (record { register = c.args.register; origin = c.args.origin; form = c.in-Some.form }) low refl is.from
    (subst (MayMeasure s (number (Some v))) c.in-Some.is is.measures ∙ same_numbers _ _ (sym (form_spared s c.args.register v c.in-Some.form (sym c.has.ensures ∙ c.if-has.false))))
