use Rattle.compile_high_law.proofs.Carried.{planned_carried}
use Rattle.compile_high_law.proofs.laws.plans_are_carried.Goals as goal

pub returns : goal.returns
returns c = λ source names program facts p listing is planned. planned_carried source names program facts p listing is planned
