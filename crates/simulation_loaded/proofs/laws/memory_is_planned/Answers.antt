use Rattle.simulation_loaded.proofs.PlanLemmas.{is_plan}
use Rattle.simulation_loaded.proofs.laws.memory_is_planned.Goals as goal

pub returns : goal.returns
returns c = λ pl p formed sound keeps fits. is_plan pl p formed sound keeps fits
