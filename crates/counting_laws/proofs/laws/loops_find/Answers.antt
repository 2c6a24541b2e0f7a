use Rattle.counting_laws.proofs.Having.{all_find}
use Rattle.counting_laws.proofs.laws.loops_find.Goals as goal

pub returns : goal.returns
returns c = λ names program tree. all_find names program tree
