use Rattle.pass_constant_hoisting.proofs.Formed.{formed}
use Rattle.pass_constant_hoisting.proofs.laws.form_is_kept.Goals as goal

pub returns : goal.returns
returns c = formed
