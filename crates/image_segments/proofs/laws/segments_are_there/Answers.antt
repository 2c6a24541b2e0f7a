use Rattle.image_segments.specs.Segments.{all_segments}
use Rattle.image_segments.proofs.OrderLemmas.{in_present, of_present}
use Rattle.image_segments.proofs.laws.segments_are_there.Goals as goal

pub returns-clause-there : goal.returns-clause-there
returns-clause-there c = λ d flash scratchpad s h some. in_present (all_segments d flash scratchpad) s h some

pub returns-clause-others : goal.returns-clause-others
returns-clause-others c = λ d flash scratchpad s h. of_present (all_segments d flash scratchpad) s h
