use Rattle.std.proofs.Common.{◌≡◌, ◌++◌, drop, map}
use Rattle.asm_emission.specs.View.{place_at}
use Rattle.asm_code.proofs.passing.some_places.Given as goal

abbrev pub invariant-loop-register : goal.invariant-loop-register
invariant-loop-register l = l.some.items ++ map (place_at l.places) (drop l.register-index l.registers) ≡ map (place_at l.places) l.registers
