use Rattle.simulation_marks.proofs.CountLemmas.{starts_counted}
use Rattle.simulation_marks.proofs.laws.starts_are_counted.Goals as goal

pub returns : goal.returns
returns c = λ pl p s v u n ends f b there less. starts_counted pl p s v u n f b ends there less
