use Rattle.loop_walks.proofs.LevelLemmas.{settled_holds}
use Rattle.loop_walks.proofs.laws.settling_pays.Goals as goal

pub returns : goal.returns
returns c low n ms v ls steps loops blank = let h = settled_holds low n ms v ls blank.worths_long blank.weights_long steps loops blank.none in (h.paid, h.settled)
