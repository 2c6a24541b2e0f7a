use Rattle.compile_placement.proofs.Numbers.{apart}
use Rattle.compile_placement.proofs.laws.items_are_apart.Goals as goal

pub returns : goal.returns
returns c = λ t ps l. apart t ps l
