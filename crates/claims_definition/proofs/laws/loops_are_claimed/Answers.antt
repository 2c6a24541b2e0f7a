use Rattle.claims_definition.proofs.Claimed.{are_claims}
use Rattle.claims_definition.proofs.laws.loops_are_claimed.Goals as goal

pub returns : goal.returns
returns c = λ l is. are_claims l is
