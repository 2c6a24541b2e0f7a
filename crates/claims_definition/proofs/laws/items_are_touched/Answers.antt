use Rattle.claims_definition.proofs.Matching.{program_touched}
use Rattle.claims_definition.proofs.laws.items_are_touched.Goals as goal

pub returns : goal.returns
returns c = λ m p. program_touched m p
