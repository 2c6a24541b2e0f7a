use Rattle.code_flow_system.proofs.LooseLemmas.{flows_are_loose}
use Rattle.code_flow_system.proofs.laws.flows_are_loose.Goals as goal

pub returns : goal.returns
returns c = flows_are_loose _
