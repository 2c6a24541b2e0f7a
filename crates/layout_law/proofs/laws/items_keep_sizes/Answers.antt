use Rattle.layout_law.proofs.Keeping.{sizes_stay}
use Rattle.layout_law.proofs.laws.items_keep_sizes.Goals as goal

pub returns : goal.returns
returns c = λ pl p. sizes_stay pl p
