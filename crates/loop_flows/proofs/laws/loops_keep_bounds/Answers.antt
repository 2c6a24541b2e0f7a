use Rattle.std.proofs.Common.{refl}
use Rattle.loop_walks.specs.Levels.{weighed}
use Rattle.loop_flows.proofs.CountLemmas.{all_counted}
use Rattle.loop_flows.proofs.laws.loops_keep_bounds.Goals as goal

pub returns : goal.returns
returns c least low n ms weights v ls counts backs steps loops long above nothing turns bounds made turned =
    all_counted least low (λ m. Unit {0}) n ms steps weights (weighed low ms weights ls) long above nothing v ls counts backs loops turns bounds (λ a f. refl) made turned
