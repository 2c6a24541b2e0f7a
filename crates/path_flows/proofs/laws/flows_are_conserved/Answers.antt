use Rattle.path_flows.proofs.ConservedLemmas.{all_conserved}
use Rattle.path_flows.proofs.laws.flows_are_conserved.Goals as goal

pub returns : goal.returns
returns c q least code wide = all_conserved _ _ _ c.requires q least code wide
