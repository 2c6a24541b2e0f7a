use Rattle.path_ranges.proofs.WorthRanges.{worths_bounded}
use Rattle.path_ranges.proofs.laws.worths_are_bounded.Goals as goal

pub returns : goal.returns
returns c = worths_bounded c.args.system.now c.args.shapes.now c.args.spans.now
