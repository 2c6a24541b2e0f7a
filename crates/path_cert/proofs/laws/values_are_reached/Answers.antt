use Rattle.path_cert.proofs.MoveLemmas.{all_reached}
use Rattle.path_cert.proofs.laws.values_are_reached.Goals as goal

pub returns : goal.returns
returns c q least is = all_reached _ _ _ c.requires q least is
