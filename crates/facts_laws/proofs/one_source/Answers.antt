use Rattle.facts_laws.proofs.Sources.{one_source}
use Rattle.facts_laws.proofs.one_source.Goals as goal

pub returns : goal.returns
returns c = one_source
