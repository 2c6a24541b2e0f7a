use Rattle.facts_laws.proofs.Units.{one_unit}
use Rattle.facts_laws.proofs.one_unit.Goals as goal

pub returns : goal.returns
returns c = one_unit
