use Rattle.std.proofs.Common.{◌≡◌, drop, map}
use Rattle.low_ir.specs.Placings.{assignment_of}
use Rattle.image_saving.specs.Tables.{places_marked}
use Rattle.image_saving.proofs.walks.mark_registers.Given as goal

abbrev pub invariant-loop-register : goal.invariant-loop-register
invariant-loop-register l = places_marked l.table (map ((assignment_of l.code).place l.fn.number) (drop l.register-index l.registers)) ≡ places_marked l.fn.table (map ((assignment_of l.code).place l.fn.number) l.registers)
