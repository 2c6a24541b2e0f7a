use Rattle.register_places.proofs.Follow.{carried}
use Rattle.register_places.proofs.Ways.{all_safe}
use Rattle.register_places.proofs.laws.intervals_carry.Goals as goal

pub returns : goal.returns
returns c = λ a p h. carried a p (all_safe a p h)
