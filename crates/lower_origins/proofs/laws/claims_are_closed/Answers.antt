use Rattle.lower_origins.proofs.Visits.{ordered}
use Rattle.lower_origins.proofs.Closing.{closed}
use Rattle.lower_origins.proofs.laws.claims_are_closed.Goals as goal

pub returns : goal.returns
returns c = λ p high f h member there. closed p (ordered p high) f h member there
