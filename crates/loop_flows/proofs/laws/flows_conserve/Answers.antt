use Rattle.loop_flows.proofs.FlowLemmas.{flows_on}
use Rattle.loop_flows.proofs.laws.flows_conserve.Goals as goal

pub returns : goal.returns
returns c n ms chosen opened starts ts steps long leads stands can = flows_on n ms chosen opened starts ts steps long leads stands can
