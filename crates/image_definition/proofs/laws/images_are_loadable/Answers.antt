use Rattle.image_definition.proofs.LaidLemmas.{image_loadable}
use Rattle.image_definition.proofs.laws.images_are_loadable.Goals as goal

pub returns : goal.returns
returns c = λ pl p fits. image_loadable pl p fits
