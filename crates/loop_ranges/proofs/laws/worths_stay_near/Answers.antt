use Rattle.loop_ranges.proofs.LevelsBelow.{stay_near}
use Rattle.loop_ranges.proofs.laws.worths_stay_near.Goals as goal

pub returns : goal.returns
returns c = stay_near
