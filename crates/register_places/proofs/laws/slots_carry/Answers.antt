use Rattle.std.specs.Prelude.{map}
use Rattle.low_ir.specs.Places.{assignment, in_slots}
use Rattle.low_ir.proofs.InSlots.{slots_assigned}
use Rattle.register_places.proofs.Follow.{carried}
use Rattle.register_places.proofs.Ways.{all_safe}
use Rattle.register_places.proofs.laws.slots_carry.Goals as goal

pub returns : goal.returns
returns c = λ p. carried (assignment (map in_slots p.functions)) p (all_safe (assignment (map in_slots p.functions)) p (slots_assigned p))
