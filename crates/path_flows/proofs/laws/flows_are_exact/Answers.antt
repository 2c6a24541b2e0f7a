use Rattle.path_flows.proofs.KeepLemmas.{all_exact}
use Rattle.path_flows.proofs.laws.flows_are_exact.Goals as goal

pub returns : goal.returns
returns c q least is = all_exact _ _ _ c.requires q least is
