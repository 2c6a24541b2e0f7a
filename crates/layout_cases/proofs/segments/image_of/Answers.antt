use Rattle.layout_cases.proofs.Rooming.{arrays_counted, segments_fit}
use Rattle.layout_cases.proofs.segments.image_of.Goals as goal

pub image-requires-clause-sizes : goal.image-requires-clause-sizes
image-requires-clause-sizes c = arrays_counted _ c.requires.arrays

pub image-requires-clause-fit : goal.image-requires-clause-fit
image-requires-clause-fit c = segments_fit _ _ _ _ _ c.requires.arrays c.requires.first c.requires.last c.in_ok-code.ensures.flash c.in_ok-code.ensures.scratchpad
