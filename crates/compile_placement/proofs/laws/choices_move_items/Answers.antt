use Rattle.compile_placement.proofs.Moves.{moves}
use Rattle.compile_placement.proofs.laws.choices_move_items.Goals as goal

pub returns : goal.returns
returns c = λ t ps before p s pl choice. moves t ps before p s pl choice
