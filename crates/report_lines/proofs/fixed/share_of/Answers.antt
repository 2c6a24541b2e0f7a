use Rattle.std.proofs.Common.{◌||◌}
use Rattle.report_words.specs.Words.{is_name}
use Rattle.report_words.specs.Numbers.{is_number, is_address}
use Rattle.report_words.specs.Shapes.{is_dash}
use Rattle.report_lines.proofs.FitLemmas.{third_of_four, last_of_four}
use Rattle.report_lines.proofs.fixed.share_of.Goals as goal

pub place-end-requires : goal.place-end-requires
place-end-requires c = third_of_four (is_dash c.args.name.now || is_name c.args.name.now) (is_address c.args.first.now) (is_address c.args.end.now) (is_number c.args.part.now) c.requires.fits

pub amount-part-requires-clause-form : goal.amount-part-requires-clause-form
amount-part-requires-clause-form c = last_of_four (is_dash c.args.name.now || is_name c.args.name.now) (is_address c.args.first.now) (is_address c.args.end.now) (is_number c.args.part.now) c.requires.fits
