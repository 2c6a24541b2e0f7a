use Rattle.response_time.specs.Entries.{names_of}
use Rattle.response_time.proofs.FormLemmas.{digits, form_of, says}
use Rattle.response_time.proofs.forms.said.Goals as goal

pub number-requires : goal.number-requires
number-requires c =
    digits c.args.line.period.now (form_of (names_of c.args.known.now) c.args.line.tag.now c.args.line.name.now c.args.line.period.now c.args.line.image.now c.args.line.report.now c.requires.form).counted

pub returns : goal.returns
returns c =
    says (names_of c.args.known.now) c.args.line.tag.now c.args.line.name.now c.args.line.period.now c.args.line.image.now c.args.line.report.now _ c.requires.form c.requires.period c.in_ok-name.ensures c.number.ensures c.in_ok-image.ensures c.in_ok-report.ensures
