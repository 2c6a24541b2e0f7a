use Rattle.loop_ranges.proofs.LevelsBelow.{worths_below}
use Rattle.loop_ranges.proofs.laws.worths_reach.Goals as goal

pub returns : goal.returns
returns c = worths_below
