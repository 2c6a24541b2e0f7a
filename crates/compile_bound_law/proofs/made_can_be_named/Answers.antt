use Rattle.compile_bound_law.proofs.Loops.{can_be_named}
use Rattle.compile_bound_law.proofs.made_can_be_named.Goals as goal

pub returns : goal.returns
returns c = λ source names program facts m is made. can_be_named source names program facts m is made
