use Rattle.claims_definition.proofs.Ranges.{ranges_hold}
use Rattle.claims_definition.proofs.laws.ranges_hold.Goals as goal

pub returns : goal.returns
returns c = λ l is. ranges_hold l is
