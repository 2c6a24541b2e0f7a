use Rattle.simulation_marks.proofs.Places.{marks_kept}
use Rattle.simulation_marks.proofs.laws.placed_keep_marks.Goals as goal

pub returns : goal.returns
returns c = λ a low trace mark. marks_kept a low trace mark
