use Rattle.image_definition.proofs.FitLemmas.{fits}
use Rattle.image_definition.proofs.laws.sizes_fit.Goals as goal

pub returns : goal.returns
returns c = λ pl p formed words sizes. fits p pl formed words sizes
