use Rattle.compile_claims.proofs.Bounds.{bound_same}
use Rattle.compile_claims.proofs.laws.bounds_are_same.Goals as goal

pub returns : goal.returns
returns g = λ es ns fs t c s ls ps e h facts. bound_same es ns fs t c s ls ps e h facts
