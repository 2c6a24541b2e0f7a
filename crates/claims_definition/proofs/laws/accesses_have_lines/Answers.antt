use Rattle.claims_definition.proofs.Regions.{regions_hold}
use Rattle.claims_definition.proofs.laws.accesses_have_lines.Goals as goal

pub returns : goal.returns
returns c = λ l is. regions_hold l is
