use Rattle.compile_placement.proofs.Sizes.{items_whole}
use Rattle.compile_placement.proofs.laws.items_are_whole.Goals as goal

pub returns : goal.returns
returns c = λ t ps l is. items_whole t ps l is
