use Rattle.std.proofs.Common.{◌≡◌, ◌++◌, drop}
use Rattle.asm_program.specs.Functions.{singles, saves}
use Rattle.asm_emission.proofs.entries.emit_saves.Given as goal

abbrev pub invariant-loop-register : goal.invariant-loop-register
invariant-loop-register l = l.code.items ++ singles (saves l.near l.frame (drop l.register-index l.registers)) ≡ l.initial.code.items ++ singles (saves l.near l.frame l.registers)
