use Rattle.path_ranges.proofs.FunctionFlows.{worths_below}
use Rattle.path_ranges.proofs.laws.loose_worths_are_totals.Goals as goal

pub returns : goal.returns
returns c = worths_below c.args.system.now c.args.shapes.now c.args.spans.now c.requires
