use Rattle.simulation_marks.proofs.LoopLemmas.{loop_kept}
use Rattle.simulation_marks.proofs.laws.loops_are_kept.Goals as goal

pub returns : goal.returns
returns c = λ pl p s v u n ends f k c there header latch totals on back. loop_kept pl p s v u n ends f k c there header latch totals on back
