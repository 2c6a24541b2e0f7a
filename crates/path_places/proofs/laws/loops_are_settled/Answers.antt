use Rattle.path_places.proofs.DriverLemmas.{all_settled}
use Rattle.path_places.proofs.laws.loops_are_settled.Goals as goal

pub returns : goal.returns
returns c q = all_settled _ _ _ c.requires q
