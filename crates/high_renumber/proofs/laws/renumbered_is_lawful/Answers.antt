use Rattle.high_renumber.proofs.Lawful.{kept_is_lawful}
use Rattle.high_renumber.proofs.laws.renumbered_is_lawful.Goals as goal

pub returns : goal.returns
returns c = λ old new high keeps. kept_is_lawful old new high keeps
