use Rattle.pass_strength_reduction_law.proofs.Reaches.{passed}
use Rattle.pass_strength_reduction_law.proofs.laws.steps_pass_marks.Goals as goal

pub returns : goal.returns
returns c = λ p q h. passed p q h
