use Rattle.std.proofs.Common.{rules, ◌<◌, ◌+◌, ap, length, sym, ◌∙◌}
use Rattle.pass_dataflow_facts.specs.Forms.{form_value, terms_value}
use Rattle.pass_dataflow_facts.proofs.Modulo.{more_of, same_numbers}
use Rattle.pass_dataflow_facts.proofs.forms.Form.with_more.Goals as goal

pub returns-then-is_of : goal.returns-then-is_of
returns-then-is_of c = λ v.
    let made = c.with_term_at.ensures in
    let lt : c.loop-at.at < length c.args.self.terms = search rules in
    same_numbers (form_value v c.with_term_at.result) _ (ap (λ n. n + terms_value v c.with_term_at.result.terms) made.constant ∙ ap (λ ts. c.args.self.constant + terms_value v ts) made.terms)
    ∙ more_of v c.args.self.terms c.loop-at.at c.args.self.constant c.args.term.register c.args.term.factor lt (sym c.is_of.ensures ∙ c.if-is_of.true)
