use Rattle.claims_definition.proofs.Movables.{array_movable}
use Rattle.claims_definition.proofs.laws.arrays_are_movable.Goals as goal

pub returns : goal.returns
returns c = λ l is o x. array_movable l is o x
