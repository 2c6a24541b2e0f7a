use Rattle.compile_placement.proofs.Moves.{takes}
use Rattle.compile_placement.proofs.laws.choices_take.Goals as goal

pub returns : goal.returns
returns c = λ t ps before p s pl choice. takes t ps before p s pl choice
