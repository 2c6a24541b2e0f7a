use Rattle.register_places.proofs.Follow.{carried}
use Rattle.register_places.proofs.laws.places_carry.Goals as goal

pub returns : goal.returns
returns c = carried
