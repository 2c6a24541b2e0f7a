use Rattle.path_cert.proofs.CertLemmas.{all_accepted}
use Rattle.path_cert.proofs.laws.certificates_are_accepted.Goals as goal

pub returns : goal.returns
returns c facts ranges flow = all_accepted _ _ _ _ c.requires facts ranges flow
