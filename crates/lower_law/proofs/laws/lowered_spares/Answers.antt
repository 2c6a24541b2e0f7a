use Rattle.lower_law.proofs.Law.{spares}
use Rattle.lower_law.proofs.laws.lowered_spares.Goals as goal

pub returns : goal.returns
returns c = λ p high wss. spares p high wss
