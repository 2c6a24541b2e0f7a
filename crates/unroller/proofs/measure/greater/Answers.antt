use Rattle.std.proofs.Common.{arith}
use Rattle.unroller.proofs.measure.greater.Goals as goal

pub returns-then-a-b : goal.returns-then-a-b
returns-then-a-b c = omega (arith, c.if-a-b.true)

pub returns-else-a-b : goal.returns-else-a-b
returns-else-a-b c = omega (arith, c.if-a-b.false)
