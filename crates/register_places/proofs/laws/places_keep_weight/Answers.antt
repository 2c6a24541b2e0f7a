use Rattle.register_places.proofs.Weights.{weight_kept}
use Rattle.register_places.proofs.laws.places_keep_weight.Goals as goal

pub returns : goal.returns
returns c = λ a low. weight_kept a low
