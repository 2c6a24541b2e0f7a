use Rattle.facts_limits.proofs.Limited.{are_limited}
use Rattle.facts_limits.proofs.laws.restrictions_are_limited.Goals as goal

pub returns : goal.returns
returns c = λ source names program facts is. are_limited source names program facts is
