use Rattle.report_words.specs.Numbers.{is_number, is_signed, is_address}
use Rattle.report_lines.proofs.FitLemmas.{last_of_four}
use Rattle.report_lines.proofs.fixed.never_of.Goals as goal

pub integer-requires-clause-form : goal.integer-requires-clause-form
integer-requires-clause-form c = last_of_four (is_number c.args.source.now) (is_number c.args.factor.now) (is_address c.args.at.now) (is_signed c.args.by.now) c.requires.fits
