use Rattle.std.proofs.Common.{◌≡◌, drop}
use Rattle.c_tree.specs.Size.{empty, size_object}
use Rattle.c_tree.specs.View.{object_of}
use Rattle.c_tree.proofs.Sizes.{sizes}
use Rattle.c_tree.proofs.measure.measure_objects.Given as goal

abbrev pub invariant-loop-object : goal.invariant-loop-object
invariant-loop-object l = sizes (λ x. size_object (object_of x)) l.sum (drop l.object-index l.objects) ≡ sizes (λ x. size_object (object_of x)) empty l.objects
