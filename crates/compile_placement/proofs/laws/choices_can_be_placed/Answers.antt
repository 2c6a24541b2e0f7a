use Rattle.compile_placement.proofs.Moves.{can_be}
use Rattle.compile_placement.proofs.laws.choices_can_be_placed.Goals as goal

pub returns : goal.returns
returns c = λ t ps before p capacity ids room small best pl placed. can_be t ps before p capacity ids best pl placed room small
