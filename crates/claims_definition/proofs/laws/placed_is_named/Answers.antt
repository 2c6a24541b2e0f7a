use Rattle.claims_definition.proofs.Naming.{named}
use Rattle.claims_definition.proofs.laws.placed_is_named.Goals as goal

pub returns : goal.returns
returns c = λ a low is. named a low is
