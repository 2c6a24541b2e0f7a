use Rattle.std.proofs.Common.{◌≡◌, ◌++◌, drop, map}
use Rattle.types_tree.specs.View.{object_of}
use Rattle.make_loops.specs.Numbers.{objects_numbers}
use Rattle.make_loops.proofs.walk.push_objects.Given as goal

abbrev pub invariant-loop-object : goal.invariant-loop-object
invariant-loop-object l = l.loops.items ++ objects_numbers l.shift (map object_of (drop l.object-index l.objects)) ≡ l.fn.loops.items ++ objects_numbers l.shift (map object_of l.objects)
