use Rattle.std.proofs.Common.{◌≡◌, ◌+◌, drop, map}
use Rattle.low_ir.specs.View.{object_of}
use Rattle.image_definition.specs.Sizes.{constants_room}
use Rattle.image_fitting.proofs.data.spend_constants.Given as goal

abbrev pub invariant-loop-object : goal.invariant-loop-object
invariant-loop-object l = l.from + constants_room (map object_of (drop l.object-index l.objects)) ≡ l.left + constants_room (map object_of l.objects)
