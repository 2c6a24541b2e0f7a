use Rattle.std.proofs.Common.{◌≡◌, ◌++◌, drop, map}
use Rattle.low_ir.specs.Placings.{assignment_of}
use Rattle.image_saving.proofs.walks.places_of.Given as goal

abbrev pub invariant-loop-register : goal.invariant-loop-register
invariant-loop-register l = l.places.items ++ map ((assignment_of l.code).place l.fn.number) (drop l.register-index l.registers) ≡ map ((assignment_of l.code).place l.fn.number) l.registers
