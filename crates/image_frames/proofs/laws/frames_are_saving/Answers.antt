use Rattle.image_frames.proofs.SavingLemmas.{saving}
use Rattle.image_frames.proofs.laws.frames_are_saving.Goals as goal

pub returns : goal.returns
returns c = λ pl p. saving pl p
