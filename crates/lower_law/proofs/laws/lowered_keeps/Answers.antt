use Rattle.lower_law.proofs.Law.{keeps}
use Rattle.lower_law.proofs.laws.lowered_keeps.Goals as goal

pub returns : goal.returns
returns c = λ p high wss. keeps p high wss
