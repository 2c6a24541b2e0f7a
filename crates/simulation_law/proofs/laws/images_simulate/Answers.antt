use Rattle.simulation_law.proofs.Simulated.{simulated}
use Rattle.simulation_law.proofs.laws.images_simulate.Goals as goal

pub returns : goal.returns
returns c = λ pl p formed sound keeps fits table input bytes i v u e. simulated pl p formed sound keeps fits table input bytes i v u e
