use Rattle.compile_placement.proofs.Few.{few}
use Rattle.compile_placement.proofs.laws.items_are_few.Goals as goal

pub returns : goal.returns
returns c = λ t ps l elements. few t ps l elements
