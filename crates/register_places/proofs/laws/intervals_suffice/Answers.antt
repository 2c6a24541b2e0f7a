use Rattle.register_places.proofs.Ways.{spaced_assigned}
use Rattle.register_places.proofs.laws.intervals_suffice.Goals as goal

pub returns : goal.returns
returns c = spaced_assigned
