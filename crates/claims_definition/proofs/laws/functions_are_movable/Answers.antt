use Rattle.claims_definition.proofs.Movables.{function_movable}
use Rattle.claims_definition.proofs.laws.functions_are_movable.Goals as goal

pub returns : goal.returns
returns c = λ l is f low. function_movable l is f low
