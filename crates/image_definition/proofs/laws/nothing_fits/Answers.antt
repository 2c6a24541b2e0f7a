use Rattle.image_definition.proofs.FitLemmas.{nothing_fits}
use Rattle.image_definition.proofs.laws.nothing_fits.Goals as goal

pub returns : goal.returns
returns c = λ p room. nothing_fits p room
