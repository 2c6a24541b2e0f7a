use Rattle.compile_claims.proofs.Bounds.{run_keeps}
use Rattle.compile_claims.proofs.laws.runs_keep_same.Goals as goal

pub returns : goal.returns
returns g = λ es ns fs c r nevers facts h. run_keeps es ns fs c r nevers facts h
