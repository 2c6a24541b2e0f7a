use Rattle.code_flow_system.proofs.DualityLemmas.{bounds_runs}
use Rattle.code_flow_system.proofs.kept_runs.bounds_runs.Goals as goal

pub returns : goal.returns
returns c = bounds_runs _ _ _ _ c.requires.scale c.requires.accepted c.runs_are_flows.ensures
