use Rattle.std.proofs.Common.{◌≡◌, ◌++◌, drop}
use Rattle.asm_program.specs.Functions.{singles, loads}
use Rattle.asm_emission.proofs.entries.emit_loads.Given as goal

abbrev pub invariant-loop-register : goal.invariant-loop-register
invariant-loop-register l = l.code.items ++ singles (loads l.near l.frame (drop l.register-index l.registers)) ≡ l.initial.code.items ++ singles (loads l.near l.frame l.registers)
