use Rattle.std.proofs.Common.{◌≡◌, ◌+◌, drop}
use Rattle.asm_program.specs.Frames.{position}
use Rattle.asm_data.proofs.frames.position.Given as goal

abbrev pub invariant-loop-index : goal.invariant-loop-index
invariant-loop-index l = l.index + position (drop l.index l.registers) l.register ≡ position l.registers l.register
