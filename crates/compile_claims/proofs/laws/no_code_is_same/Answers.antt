use Rattle.compile_claims.proofs.Systems.{no_code_same}
use Rattle.compile_claims.proofs.laws.no_code_is_same.Goals as goal

pub returns : goal.returns
returns g = λ es ns fs image c a h. no_code_same es ns fs image c a h
