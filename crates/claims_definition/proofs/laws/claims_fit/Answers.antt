use Rattle.claims_definition.proofs.Fitting.{claims_fit}
use Rattle.claims_definition.proofs.laws.claims_fit.Goals as goal

pub returns : goal.returns
returns c = λ l main image s ss is here sys h. claims_fit l is main image s ss here sys h
