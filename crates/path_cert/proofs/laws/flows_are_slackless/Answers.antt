use Rattle.path_cert.proofs.MoveLemmas.{all_slackless}
use Rattle.path_cert.proofs.laws.flows_are_slackless.Goals as goal

pub returns : goal.returns
returns c q least is = all_slackless _ _ _ c.requires q least is
