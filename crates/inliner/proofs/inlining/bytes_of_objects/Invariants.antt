use Rattle.std.proofs.Common.{◌≡◌, map, sum_by, take}
use Rattle.high_ir.specs.Size.{local_object_bytes}
use Rattle.high_ir.specs.View.{object_of}
use Rattle.inliner.proofs.inlining.bytes_of_objects.Given as goal

abbrev pub invariant-loop-object : goal.invariant-loop-object
invariant-loop-object l = l.bytes ≡ sum_by (λ o. local_object_bytes o.storage o) (map object_of (take l.object-index l.objects))
