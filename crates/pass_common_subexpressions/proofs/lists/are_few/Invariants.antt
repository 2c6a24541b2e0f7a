use Rattle.std.proofs.Common.{take}
use Rattle.pass_common_subexpressions.specs.Making.{AreFew}
use Rattle.pass_common_subexpressions.proofs.lists.are_few.Given as goal

abbrev pub invariant-loop-fact : goal.invariant-loop-fact
invariant-loop-fact l = AreFew l.registers (take l.fact-index l.list)
