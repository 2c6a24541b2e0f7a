use Rattle.std.proofs.Common.{refl, sym, ◌∙◌}
use Rattle.std.proofs.lemmas.Option.{IfSome_then}
use Rattle.pass_dataflow_facts.specs.Facts.{number_in}
use Rattle.pass_dataflow_facts.specs.Forms.{form_value}
use Rattle.pass_dataflow_facts.proofs.Modulo.{same_multiple, same_sum}
use Rattle.pass_dataflow_transfer.proofs.reading.with_term.Goals as goal

pub returns : goal.returns
returns c = IfSome_then c.plus.result c.plus.ensures (λ f is. λ s known.
    let v = number_in s in
    is v ∙ same_sum (form_value v c.args.all) (form_value v c.args.all) _ _ refl (same_multiple c.args.term.factor (form_value v c.form_of.result) (v c.args.term.register) (sym (c.form_of.ensures s known))))
