use Rattle.compile_placement.proofs.Moves.{nothing_fits}
use Rattle.compile_placement.proofs.laws.nothing_can_be_placed.Goals as goal

pub returns : goal.returns
returns c = λ p room. nothing_fits p room
