use Rattle.image_segments.proofs.OpenLemmas.{frame_open, array_open}
use Rattle.image_segments.proofs.laws.memory_is_open.Goals as goal

pub returns-clause-frames : goal.returns-clause-frames
returns-clause-frames c = λ d flash scratchpad a n low high some. frame_open d flash scratchpad a n low high some

pub returns-clause-arrays : goal.returns-clause-arrays
returns-clause-arrays c = λ d flash scratchpad o x there stored some. array_open d flash scratchpad o x there stored some
