use Rattle.std.proofs.Common.{◌≡◌, map, take}
use Rattle.high_ir.specs.View.{object_of}
use Rattle.high_parts.proofs.objects.copied_objects.Given as goal

abbrev pub invariant-loop-object : goal.invariant-loop-object
invariant-loop-object l = map object_of l.copies.items ≡ map object_of (take l.object-index l.objects)
