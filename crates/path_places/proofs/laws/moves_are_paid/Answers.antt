use Rattle.path_places.proofs.DriverLemmas.{all_paid}
use Rattle.path_places.proofs.laws.moves_are_paid.Goals as goal

pub returns : goal.returns
returns c q = all_paid _ _ _ c.requires q
