use Rattle.claims_definition.proofs.Calls.{no_false}
use Rattle.claims_definition.proofs.laws.exits_are_calls.Goals as goal

pub returns : goal.returns
returns c = λ l image here n false_exit. no_false l image here n false_exit
