use Rattle.facts_laws.proofs.Sources.{not_both}
use Rattle.facts_laws.proofs.not_both.Goals as goal

pub returns : goal.returns
returns c = not_both
