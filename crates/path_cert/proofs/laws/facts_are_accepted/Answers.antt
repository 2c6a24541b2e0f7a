use Rattle.path_cert.proofs.PricedLemmas.{facts_accepted}
use Rattle.path_cert.proofs.laws.facts_are_accepted.Goals as goal

pub returns : goal.returns
returns c = facts_accepted _ _ _ _ c.requires
