use Rattle.path_flows.proofs.KeepLemmas.{all_keep}
use Rattle.path_flows.proofs.laws.flows_keep_claims.Goals as goal

pub returns : goal.returns
returns c q least is = all_keep _ _ _ c.requires q least is
