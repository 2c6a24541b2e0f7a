use Rattle.compile_claims.proofs.Systems.{none_bad}
use Rattle.compile_claims.proofs.laws.none_is_bad.Goals as goal

pub returns : goal.returns
returns g = λ es ns fs image c none sound exits own facts n bad. none_bad es ns fs image c none sound exits own facts n bad
