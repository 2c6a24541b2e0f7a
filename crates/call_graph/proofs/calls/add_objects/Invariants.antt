use Rattle.std.proofs.Common.{◌≡◌, ◌++◌, drop, map}
use Rattle.types_calls.specs.Calls.{objects_calls}
use Rattle.types_tree.specs.View.{object_of}
use Rattle.call_graph.proofs.calls.add_objects.Given as goal

abbrev pub invariant-loop-object : goal.invariant-loop-object
invariant-loop-object l = l.calls.items ++ objects_calls (map object_of (drop l.object-index l.objects)) ≡ l.fn.calls.items ++ objects_calls (map object_of l.objects)
