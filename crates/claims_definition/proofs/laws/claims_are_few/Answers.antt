use Rattle.claims_definition.proofs.Counts.{claims_few}
use Rattle.claims_definition.proofs.laws.claims_are_few.Goals as goal

pub returns : goal.returns
returns c = λ l is. claims_few l is
