use Rattle.std.proofs.Common.{◌≡◌, ◌++◌, drop}
use Rattle.low_ir.specs.Places.{machine_registers, registers_of}
use Rattle.asm_program.specs.Emission.{kept_among}
use Rattle.asm_emission.proofs.calls.kept_among.Given as goal

abbrev pub invariant-loop-place : goal.invariant-loop-place
invariant-loop-place l = l.kept.items ++ kept_among (drop l.place-index l.places) (registers_of machine_registers l.mask) ≡ kept_among l.places (registers_of machine_registers l.mask)
