use Rattle.facts_limits.proofs.Sources.{fit}
use Rattle.facts_limits.proofs.laws.names_fit.Goals as goal

pub returns : goal.returns
returns c = fit
