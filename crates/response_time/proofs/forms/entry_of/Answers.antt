use Rattle.std.proofs.Common.{◌≡◌, ◌∙◌, rules, sym, true}
use Rattle.response_time.specs.Entries.{names_of}
use Rattle.response_time.proofs.FormLemmas.{form_of}
use Rattle.response_time.proofs.forms.entry_of.Goals as goal

pub is_period-requires : goal.is_period-requires
is_period-requires c =
    let line = c.parted-line.result in
    let e : c.has_form.result ≡ true = search rules in
    (form_of (names_of c.args.known.now) line.tag.now line.name.now line.period.now line.image.now line.report.now (sym c.has_form.ensures ∙ e)).counted
