use Rattle.lower_pass_laws.proofs.PromotedKeeping.{keeps}
use Rattle.lower_pass_laws.proofs.laws.promoted_keeps.Goals as goal

pub returns : goal.returns
returns c = λ p q r k spares may. keeps p q r k spares may
