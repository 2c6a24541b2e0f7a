use Rattle.layout_law.proofs.Counting.{claims_counted}
use Rattle.layout_law.proofs.laws.claims_are_counted.Goals as goal

pub returns : goal.returns
returns c = λ pl p is. claims_counted pl p is
