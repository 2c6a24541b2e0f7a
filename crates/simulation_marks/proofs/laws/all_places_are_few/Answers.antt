use Rattle.simulation_marks.proofs.Standing.{all_few}
use Rattle.simulation_marks.proofs.laws.all_places_are_few.Goals as goal

pub returns : goal.returns
returns c = λ l n. all_few l n
