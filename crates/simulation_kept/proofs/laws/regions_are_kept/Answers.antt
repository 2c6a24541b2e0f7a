use Rattle.simulation_kept.proofs.Keeping.{keeps_regions}
use Rattle.simulation_kept.proofs.laws.regions_are_kept.Goals as goal

pub returns : goal.returns
returns c = λ pl p is s v u n ends. keeps_regions pl p is s v u n ends
