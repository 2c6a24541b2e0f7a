use Rattle.loop_ranges.proofs.BesideLemmas.{walk_pays}
use Rattle.loop_ranges.proofs.laws.loose_walk_pays.Goals as goal

pub returns : goal.returns
returns c = walk_pays
