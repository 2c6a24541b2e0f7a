use Rattle.simulation_loaded.proofs.PlacedLemmas.{placed_keeps}
use Rattle.simulation_loaded.proofs.laws.placed_keep_registers.Goals as goal

pub returns : goal.returns
returns c = λ ps low. placed_keeps ps low
