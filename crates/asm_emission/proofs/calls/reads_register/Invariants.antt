use Rattle.std.proofs.Common.{◌≡◌, drop, map}
use Rattle.asm_program.specs.Emission.{reads_register}
use Rattle.asm_emission.specs.View.{operand_of}
use Rattle.asm_emission.proofs.calls.reads_register.Given as goal

abbrev pub invariant-loop-operand : goal.invariant-loop-operand
invariant-loop-operand l = reads_register l.register (map operand_of (drop l.operand-index l.operands)) ≡ reads_register l.register (map operand_of l.operands)
