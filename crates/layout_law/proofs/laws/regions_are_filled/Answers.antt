use Rattle.layout_law.proofs.Filled.{all_filled}
use Rattle.layout_law.proofs.laws.regions_are_filled.Goals as goal

pub returns : goal.returns
returns c = λ pl p is fits moves elements. all_filled pl p is fits moves elements
