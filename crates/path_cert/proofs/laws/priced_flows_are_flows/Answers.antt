use Rattle.path_cert.proofs.PricedFlowLemmas.{all_priced}
use Rattle.path_cert.proofs.laws.priced_flows_are_flows.Goals as goal

pub returns : goal.returns
returns c is of up = all_priced _ _ _ _ is of up
