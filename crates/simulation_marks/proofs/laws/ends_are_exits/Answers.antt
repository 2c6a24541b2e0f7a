use Rattle.simulation_marks.proofs.CountLemmas.{ends_at_exit}
use Rattle.simulation_marks.proofs.laws.ends_are_exits.Goals as goal

pub returns : goal.returns
returns c = λ pl p s v u n ends. ends_at_exit pl p s v u n ends
