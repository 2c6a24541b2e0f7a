use Rattle.path_places.proofs.RowLemmas.{walks_dual}
use Rattle.path_places.proofs.laws.walks_are_dual.Goals as goal

pub returns : goal.returns
returns c q negative = walks_dual _ _ _ c.requires q negative
