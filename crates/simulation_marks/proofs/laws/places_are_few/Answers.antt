use Rattle.simulation_marks.proofs.Places.{places_many}
use Rattle.simulation_marks.proofs.laws.places_are_few.Goals as goal

pub returns : goal.returns
returns c = λ l mark. places_many mark l
