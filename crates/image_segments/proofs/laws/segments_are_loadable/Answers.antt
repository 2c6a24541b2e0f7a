use Rattle.image_segments.proofs.SegmentLemmas.{loadable}
use Rattle.image_segments.proofs.laws.segments_are_loadable.Goals as goal

pub returns : goal.returns
returns c = λ d flash scratchpad fits. loadable d flash scratchpad fits
