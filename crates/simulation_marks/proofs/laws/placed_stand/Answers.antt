use Rattle.simulation_marks.proofs.Standing.{all_stand}
use Rattle.simulation_marks.proofs.laws.placed_stand.Goals as goal

pub returns : goal.returns
returns c = λ a low. all_stand a low
