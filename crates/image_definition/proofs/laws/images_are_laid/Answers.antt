use Rattle.image_definition.proofs.LaidLemmas.{image_is, placed_even}
use Rattle.image_definition.proofs.laws.images_are_laid.Goals as goal

pub returns : goal.returns
returns c = λ pl p image claims formed sound fits is exits. image_is pl p fits formed sound image claims is exits (placed_even pl p)
