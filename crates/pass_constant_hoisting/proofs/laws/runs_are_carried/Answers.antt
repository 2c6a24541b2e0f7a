use Rattle.pass_constant_hoisting.proofs.Follow.{carried}
use Rattle.pass_constant_hoisting.proofs.laws.runs_are_carried.Goals as goal

pub returns : goal.returns
returns c = carried
