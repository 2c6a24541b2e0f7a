use Rattle.std.proofs.Common.{◌≡◌, map}
use Rattle.std.specs.List.{range_with_len}
use Rattle.low_ir.specs.declared.places.Place.TheVariants.{Slot}
use Rattle.low_ir.proofs.slots.slots_of.Given as goal

abbrev pub invariant-loop-register : goal.invariant-loop-register
invariant-loop-register l = l.places.items ≡ map Slot (range_with_len 0 l.register)
