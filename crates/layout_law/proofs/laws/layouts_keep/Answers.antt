use Rattle.layout_law.proofs.KeptLemmas.{keeps}
use Rattle.layout_law.proofs.laws.layouts_keep.Goals as goal

pub returns : goal.returns
returns c = λ pl ps low is fits words sizes. keeps pl ps low is fits words sizes
