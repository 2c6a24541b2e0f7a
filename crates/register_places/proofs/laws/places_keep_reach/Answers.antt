use Rattle.register_places.proofs.Weights.{reach_kept}
use Rattle.register_places.proofs.laws.places_keep_reach.Goals as goal

pub returns : goal.returns
returns c = λ a low mark. reach_kept a low mark
