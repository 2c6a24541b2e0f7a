use Rattle.std.proofs.Common.{◌≡◌, map, take}
use Rattle.high_ir.specs.View.{object_of as high_object}
use Rattle.low_ir.specs.View.{object_of as low_object}
use Rattle.lower_definition.specs.Objects.{object_of}
use Rattle.low_make.proofs.program.objects_of.Given as goal

abbrev pub invariant-loop-object : goal.invariant-loop-object
invariant-loop-object l = map low_object l.made.items ≡ map object_of (map high_object (take l.object-index l.objects))
