use Rattle.compile_high_law.proofs.Plans.{pass_limited}
use Rattle.compile_high_law.proofs.laws.passes_keep_limits.Goals as goal

pub returns : goal.returns
returns c = λ old new listing lawful limited. pass_limited old new listing lawful limited
