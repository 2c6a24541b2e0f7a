use Rattle.std.proofs.Common.{rules, ◌<◌, ◌+◌, ◌*◌, ap, drop, length, sym, ◌∙◌}
use Rattle.std.specs.Prelude.{slice_index_or}
use Rattle.std.proofs.lemmas.List.{drop_more}
use Rattle.pass_dataflow_facts.specs.Facts.{number_in}
use Rattle.pass_dataflow_facts.specs.Forms.{form_value, terms_value}
use Rattle.pass_dataflow_facts.proofs.Modulo.{nothing, same_numbers}
use Rattle.pass_dataflow_transfer.proofs.Facts.{term_more}
use Rattle.pass_dataflow_transfer.proofs.reading.in_place.Goals as goal

pub loop-term-preserved : goal.loop-term-preserved
loop-term-preserved c = λ s known.
    let v = number_in s in
    let ts = c.args.form.terms in
    let i = c.loop-term.term-index in
    let t = slice_index_or ts i nothing in
    let lt : i < length ts = search rules in
    term_more (form_value v c.in-Some.more) (form_value v c.loop-term.all) (t.factor * v t.register) (terms_value v (drop (i + 1) ts)) (form_value v c.args.form)
    (c.in-Some.ensures s known)
    (same_numbers _ _ (ap (λ xs. form_value v c.loop-term.all + terms_value v xs) (sym (drop_more ts i nothing lt))) ∙ c.loop-term.invariant s known)
