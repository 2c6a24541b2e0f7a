use Rattle.pass_constant_hoisting.proofs.Costs.{cheap}
use Rattle.pass_constant_hoisting.proofs.laws.costs_are_few.Goals as goal

pub returns : goal.returns
returns c = cheap
