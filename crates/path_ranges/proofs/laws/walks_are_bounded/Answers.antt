use Rattle.path_ranges.proofs.SystemRanges.{walks_bounded}
use Rattle.path_ranges.proofs.laws.walks_are_bounded.Goals as goal

pub returns : goal.returns
returns c = walks_bounded c.args.system.now c.args.shapes.now c.args.spans.now
