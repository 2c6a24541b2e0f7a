use Rattle.std.proofs.Common.{rules, ◌<◌, ◌+◌, ◌*◌, ap, drop, length, sym, ◌∙◌}
use Rattle.std.specs.Prelude.{slice_index_or}
use Rattle.std.proofs.lemmas.List.{drop_more}
use Rattle.pass_dataflow_facts.specs.Forms.{form_value, terms_value}
use Rattle.pass_dataflow_facts.proofs.Modulo.{nothing, same_numbers, term_added}
use Rattle.pass_dataflow_facts.proofs.forms.Form.plus.Goals as goal

pub loop-term-preserved : goal.loop-term-preserved
loop-term-preserved c = λ v.
    let ts = c.args.other.terms in
    let i = c.loop-term.term-index in
    let lt : i < length ts = search rules in
    term_added v c.args.factor (form_value v c.loop-term.all) (form_value v c.in-Some.more) (form_value v c.args.self + c.args.factor * form_value v c.args.other) (terms_value v (drop (i + 1) ts)) (slice_index_or ts i nothing) c.times.result
    (same_numbers _ _ (ap (λ xs. form_value v c.loop-term.all + c.args.factor * terms_value v xs) (sym (drop_more ts i nothing lt))) ∙ c.loop-term.invariant v)
    (c.times.ensures v)
    (c.in-Some.ensures v)
