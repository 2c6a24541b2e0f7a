use Rattle.lower_origins.proofs.Reaching.{lists_reached}
use Rattle.lower_origins.proofs.laws.order_is_reached.Goals as goal

pub returns : goal.returns
returns c = λ p high. lists_reached p high
