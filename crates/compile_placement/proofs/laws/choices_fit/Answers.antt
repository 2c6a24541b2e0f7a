use Rattle.compile_placement.proofs.Moves.{fits}
use Rattle.compile_placement.proofs.laws.choices_fit.Goals as goal

pub returns : goal.returns
returns c = λ t ps before p capacity ids pl best placed. fits t ps before p capacity ids best pl placed
