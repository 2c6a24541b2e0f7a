use Rattle.low_ir.proofs.Examples.{example_is_low}
use Rattle.low_ir.proofs.laws.example_is_low.Goals as goal

pub returns : goal.returns
returns c = example_is_low
