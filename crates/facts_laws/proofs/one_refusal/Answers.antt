use Rattle.facts_laws.proofs.Sources.{one_refusal}
use Rattle.facts_laws.proofs.one_refusal.Goals as goal

pub returns : goal.returns
returns c = one_refusal
