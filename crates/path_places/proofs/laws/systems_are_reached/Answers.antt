use Rattle.path_places.proofs.ReachedLemmas.{all_reached}
use Rattle.path_places.proofs.laws.systems_are_reached.Goals as goal

pub returns : goal.returns
returns c = all_reached _ _ _ c.requires
