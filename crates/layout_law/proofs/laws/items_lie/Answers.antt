use Rattle.layout_law.proofs.Lying.{all_lie}
use Rattle.layout_law.proofs.laws.items_lie.Goals as goal

pub returns : goal.returns
returns c = λ pl p is fits. all_lie pl p is fits
