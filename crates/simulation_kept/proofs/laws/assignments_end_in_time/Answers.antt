use Rattle.simulation_kept.proofs.Kept.{in_time}
use Rattle.simulation_kept.proofs.laws.assignments_end_in_time.Goals as goal

pub returns : goal.returns
returns c = λ pl ps low s has sys t cert scale accepted input bytes i v u good. in_time pl ps low s has sys t input bytes i v u good cert scale accepted
