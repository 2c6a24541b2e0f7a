use Rattle.lower_origins.proofs.Visits.{ordered}
use Rattle.lower_origins.proofs.laws.order_is_closed.Goals as goal

pub returns : goal.returns
returns c = λ p high. ordered p high
