use Rattle.lower_pass_laws.proofs.SteppedKeeping.{keeps}
use Rattle.lower_pass_laws.proofs.laws.steps_keep.Goals as goal

pub returns : goal.returns
returns c = λ p q r k h. keeps p q r k h
