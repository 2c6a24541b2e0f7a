use Rattle.compile_high_law.proofs.Plans.{source_limited}
use Rattle.compile_high_law.proofs.laws.plans_keep_limits.Goals as goal

pub returns : goal.returns
returns c = λ source names program facts h. source_limited source names program facts h
