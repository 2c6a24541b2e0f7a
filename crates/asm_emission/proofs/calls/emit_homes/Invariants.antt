use Rattle.std.proofs.Common.{◌≡◌, ◌++◌, drop}
use Rattle.asm_program.specs.Emission.{home_code}
use Rattle.asm_program.specs.Functions.{singles}
use Rattle.asm_emission.proofs.calls.emit_homes.Given as goal

abbrev pub invariant-loop-register : goal.invariant-loop-register
invariant-loop-register l = l.code.items ++ singles (home_code l.frame (drop l.register-index l.registers)) ≡ l.initial.code.items ++ singles (home_code l.frame l.registers)
