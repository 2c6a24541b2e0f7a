use Rattle.report_words.specs.Numbers.{is_address, is_signed}
use Rattle.report_lines.proofs.FitLemmas.{last_of_four}
use Rattle.report_lines.proofs.fixed.turns_of.Goals as goal

pub integer-requires-2-clause-form : goal.integer-requires-2-clause-form
integer-requires-2-clause-form c = last_of_four (is_address c.args.words.now.first.now) (is_address c.args.words.now.second.now) (is_signed c.args.words.now.third.now) (is_signed c.args.words.now.fourth.now) c.requires.fits
