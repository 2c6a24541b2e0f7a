use Rattle.report_words.specs.Numbers.{is_number}
use Rattle.report_lines.proofs.FitLemmas.{third_of_four, last_of_four}
use Rattle.report_lines.proofs.fixed.bounds_of.Goals as goal

pub small-requires-3-clause-form : goal.small-requires-3-clause-form
small-requires-3-clause-form c = third_of_four (is_number c.args.words.now.first.now) (is_number c.args.words.now.second.now) (is_number c.args.words.now.third.now) (is_number c.args.words.now.fourth.now) c.requires.fits

pub small-requires-4-clause-form : goal.small-requires-4-clause-form
small-requires-4-clause-form c = last_of_four (is_number c.args.words.now.first.now) (is_number c.args.words.now.second.now) (is_number c.args.words.now.third.now) (is_number c.args.words.now.fourth.now) c.requires.fits
