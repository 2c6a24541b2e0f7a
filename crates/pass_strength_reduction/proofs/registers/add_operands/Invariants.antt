use Rattle.std.proofs.Common.{◌≡◌, ◌++◌, drop, map}
use Rattle.low_ir.specs.Formed.{registers_in}
use Rattle.low_ir.specs.View.{operand_of}
use Rattle.pass_strength_reduction.proofs.registers.add_operands.Given as goal

abbrev pub invariant-loop-operand : goal.invariant-loop-operand
invariant-loop-operand l = l.all.items ++ registers_in (map operand_of (drop l.operand-index l.operands)) ≡ l.initial.all.items ++ registers_in (map operand_of l.operands)
