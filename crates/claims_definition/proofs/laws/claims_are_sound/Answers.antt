use Rattle.claims_definition.proofs.Sound.{claims_sound}
use Rattle.claims_definition.proofs.laws.claims_are_sound.Goals as goal

pub returns : goal.returns
returns c = λ l is. claims_sound l is
