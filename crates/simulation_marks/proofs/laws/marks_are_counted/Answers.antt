use Rattle.simulation_marks.proofs.Marks.{marks_counted}
use Rattle.simulation_marks.proofs.laws.marks_are_counted.Goals as goal

pub returns : goal.returns
returns c = λ pl p s v u n ends mark. marks_counted pl p s v u n ends mark
