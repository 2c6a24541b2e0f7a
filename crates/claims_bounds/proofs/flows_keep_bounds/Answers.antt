use Rattle.claims_bounds.proofs.FlowLemmas.{flows_keep_bounds}
use Rattle.claims_bounds.proofs.flows_keep_bounds.Goals as goal

pub returns : goal.returns
returns c = flows_keep_bounds c.args.costs.now
