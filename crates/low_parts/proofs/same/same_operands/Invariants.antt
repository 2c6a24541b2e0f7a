use Rattle.std.proofs.Common.{◌≡◌, ◌++◌, drop}
use Rattle.low_parts.proofs.same.same_operands.Given as goal

abbrev pub invariant-loop-operand : goal.invariant-loop-operand
invariant-loop-operand l = l.same.items ++ drop l.operand-index l.operands ≡ l.operands
