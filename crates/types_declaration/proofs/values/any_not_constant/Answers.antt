use Rattle.std.proofs.Common.{arith}
use Rattle.types_declaration.proofs.Lists.{none_left}
use Rattle.types_declaration.proofs.values.any_not_constant.Goals as goal

pub returns : goal.returns
returns c = none_left c.args.given.now c.loop-source.source-index c.loop-source.found (omega (arith, c.loop-source-test.false)) c.loop-source.invariant
