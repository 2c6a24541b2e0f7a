use Rattle.lower_origins.proofs.Passings.{lists_passed}
use Rattle.lower_origins.proofs.laws.claims_are_passed.Goals as goal

pub returns : goal.returns
returns c = λ p high. lists_passed p high
