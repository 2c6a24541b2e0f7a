use Rattle.std.proofs.Common.{◌≡◌, drop, map}
use Rattle.types_tree.specs.View.{object_of}
use Rattle.facts_loops.specs.Changes.{objects_changes}
use Rattle.bound_finder.proofs.changing.objects_changes.Given as goal

abbrev pub invariant-loop-declared : goal.invariant-loop-declared
invariant-loop-declared l = objects_changes l.object (map object_of (drop l.declared-index l.objects)) ≡ objects_changes l.object (map object_of l.objects)
