use Rattle.path_cert.proofs.BoundLemmas.{all_greatest}
use Rattle.path_cert.proofs.laws.bounds_are_greatest.Goals as goal

pub returns : goal.returns
returns c is = all_greatest _ _ _ _ is
