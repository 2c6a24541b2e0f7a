use Rattle.std.proofs.Common.{◌≡◌, ◌++◌, drop}
use Rattle.pass_jump_threading.proofs.making.registers_of.Given as goal

abbrev pub invariant-loop-register : goal.invariant-loop-register
invariant-loop-register l = l.same.items ++ drop l.register-index l.registers ≡ l.registers
