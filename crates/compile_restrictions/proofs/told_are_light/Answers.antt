use Rattle.compile_restrictions.proofs.Totals.{told_light}
use Rattle.compile_restrictions.proofs.told_are_light.Goals as goal

pub returns : goal.returns
returns c = λ facts lines claims n most limited told each. told_light facts lines n most each claims limited told
