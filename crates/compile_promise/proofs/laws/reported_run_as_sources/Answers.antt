use Rattle.facts_limits.proofs.Limited.{are_limited}
use Rattle.compile_promise.proofs.Runs.{runs_as_source}
use Rattle.compile_promise.proofs.laws.reported_run_as_sources.Goals as goal

pub returns : goal.returns
returns g = λ source names program facts m t r is made reported. runs_as_source names program facts m t r (are_limited source names program facts is) made reported
