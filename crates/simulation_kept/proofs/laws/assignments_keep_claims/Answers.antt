use Rattle.simulation_kept.proofs.Kept.{finishes}
use Rattle.simulation_kept.proofs.laws.assignments_keep_claims.Goals as goal

pub returns : goal.returns
returns c = λ pl ps low s has sys t input bytes i v u good. finishes pl ps low s has sys t input bytes i v u good
