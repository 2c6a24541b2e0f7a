use Rattle.std.proofs.Common.{◌≡◌, map}
use Rattle.std.specs.List.{range_with_len}
use Rattle.layout_cases.specs.Registers.{place_at}
use Rattle.layout_cases.proofs.registers.places.Given as goal

abbrev pub invariant-loop-register : goal.invariant-loop-register
invariant-loop-register l = l.places.items ≡ map place_at (range_with_len 0 l.register)
