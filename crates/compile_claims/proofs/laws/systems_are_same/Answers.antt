use Rattle.compile_claims.proofs.Systems.{system_same}
use Rattle.compile_claims.proofs.laws.systems_are_same.Goals as goal

pub returns : goal.returns
returns g = λ es ns fs image c s none free h. system_same es ns fs image c s none free h
