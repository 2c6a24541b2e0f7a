use Rattle.plan_formed.proofs.ElementPrograms.{plan_some}
use Rattle.plan_formed.proofs.laws.plans_have_elements.Goals as goal

pub returns : goal.returns
returns c = λ names program facts h. plan_some names program facts h
