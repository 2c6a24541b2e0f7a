use Rattle.loop_flows.proofs.SpreadLemmas.{spread_tight}
use Rattle.loop_flows.proofs.laws.squeezed_is_tight.Goals as goal

pub returns : goal.returns
returns c chosen n price p cost q starts ms long steps squeezing squeezed = spread_tight chosen n price p cost q starts ms long steps squeezing squeezed
