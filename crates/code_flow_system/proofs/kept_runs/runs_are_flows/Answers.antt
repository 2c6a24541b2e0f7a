use Rattle.code_flow_system.proofs.RunLemmas.{runs_are_flows}
use Rattle.code_flow_system.proofs.kept_runs.runs_are_flows.Goals as goal

pub returns : goal.returns
returns c = runs_are_flows _ _ _ c.requires c.code_stays.ensures.instructions
