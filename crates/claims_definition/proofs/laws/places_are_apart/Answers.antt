use Rattle.claims_definition.proofs.Marks.{places_apart}
use Rattle.claims_definition.proofs.laws.places_are_apart.Goals as goal

pub returns : goal.returns
returns c = λ l is m n a h k. places_apart l is m n a h k
