use Rattle.image_segments.proofs.ValueLemmas.{element_read}
use Rattle.image_segments.proofs.laws.elements_are_read.Goals as goal

pub returns : goal.returns
returns c = λ d flash scratchpad fits o x i there given less. element_read d flash scratchpad fits o x i there given less
