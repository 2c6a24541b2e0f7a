use Rattle.std.proofs.Common.{◌≡◌, ◌++◌, drop}
use Rattle.low_parts.proofs.same.same_registers.Given as goal

abbrev pub invariant-loop-register : goal.invariant-loop-register
invariant-loop-register l = l.same.items ++ drop l.register-index l.registers ≡ l.registers
