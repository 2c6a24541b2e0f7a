use Rattle.claims_definition.proofs.Marks.{places_hold}
use Rattle.claims_definition.proofs.laws.marks_have_places.Goals as goal

pub returns : goal.returns
returns c = λ l is mark. places_hold l mark is
