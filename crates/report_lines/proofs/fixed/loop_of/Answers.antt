use Rattle.std.proofs.Common.{◌&&◌, true}
use Rattle.report_words.specs.Numbers.{is_number, is_signed, is_address}
use Rattle.report_words.specs.declared.shapes.Shape.TheVariants.{Address, Signed}
use Rattle.report_words.specs.Shapes.{is_in_range}
use Rattle.report_lines.specs.LineShapes.{small}
use Rattle.report_lines.proofs.FitLemmas.{front_of_eight, back_of_eight}
use Rattle.report_lines.proofs.fixed.loop_of.Goals as goal

pub bounds_of-source-requires-clause-fits : goal.bounds_of-source-requires-clause-fits
bounds_of-source-requires-clause-fits c = front_of_eight (is_number c.args.front.now.first.now) (is_number c.args.front.now.second.now) (is_number c.args.front.now.third.now) (is_number c.args.front.now.fourth.now) (is_address c.args.back.now.first.now && (is_address c.args.back.now.second.now && (is_signed c.args.back.now.third.now && (is_signed c.args.back.now.fourth.now && true)))) c.requires.fits

pub bounds_of-source-requires-clause-in_range : goal.bounds_of-source-requires-clause-in_range
bounds_of-source-requires-clause-in_range c = front_of_eight (is_in_range small c.args.front.now.first.now) (is_in_range small c.args.front.now.second.now) (is_in_range small c.args.front.now.third.now) (is_in_range small c.args.front.now.fourth.now) (is_in_range Address c.args.back.now.first.now && (is_in_range Address c.args.back.now.second.now && (is_in_range Signed c.args.back.now.third.now && (is_in_range Signed c.args.back.now.fourth.now && true)))) c.requires.in_range

pub turns_of-header-requires-clause-fits : goal.turns_of-header-requires-clause-fits
turns_of-header-requires-clause-fits c = back_of_eight (is_number c.args.front.now.first.now) (is_number c.args.front.now.second.now) (is_number c.args.front.now.third.now) (is_number c.args.front.now.fourth.now) (is_address c.args.back.now.first.now && (is_address c.args.back.now.second.now && (is_signed c.args.back.now.third.now && (is_signed c.args.back.now.fourth.now && true)))) c.requires.fits

pub turns_of-header-requires-clause-in_range : goal.turns_of-header-requires-clause-in_range
turns_of-header-requires-clause-in_range c = back_of_eight (is_in_range small c.args.front.now.first.now) (is_in_range small c.args.front.now.second.now) (is_in_range small c.args.front.now.third.now) (is_in_range small c.args.front.now.fourth.now) (is_in_range Address c.args.back.now.first.now && (is_in_range Address c.args.back.now.second.now && (is_in_range Signed c.args.back.now.third.now && (is_in_range Signed c.args.back.now.fourth.now && true)))) c.requires.in_range
