use Rattle.counting_laws.proofs.Whole.{never_broken}
use Rattle.counting_laws.proofs.laws.derived_hold.Goals as goal

pub returns : goal.returns
returns c = λ names program facts input h at only. never_broken names program facts h input at only
