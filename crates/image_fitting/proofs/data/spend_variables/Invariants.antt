use Rattle.std.proofs.Common.{◌≡◌, ◌+◌, drop, map}
use Rattle.low_ir.specs.View.{object_of}
use Rattle.image_definition.specs.Sizes.{variables_room}
use Rattle.image_fitting.proofs.data.spend_variables.Given as goal

abbrev pub invariant-loop-object : goal.invariant-loop-object
invariant-loop-object l = l.from + variables_room (map object_of (drop l.object-index l.objects)) ≡ l.left + variables_room (map object_of l.objects)
