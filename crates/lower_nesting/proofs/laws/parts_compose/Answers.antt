use Rattle.lower_nesting.proofs.laws.parts_compose.Goals as goal
use Rattle.lower_nesting.proofs.Pieces.{part_then}

pub returns : goal.returns
returns c = λ f last q n m ls a b d h k. part_then f last q n m ls a b d h k
