use Rattle.loop_sizes.proofs.LevelSizes.{stay_small}
use Rattle.loop_sizes.proofs.numbers_stay_small.Goals as goal

pub returns : goal.returns
returns c = stay_small
