use Rattle.std.proofs.Common.{◌≡◌, ◌++◌, drop, map}
use Rattle.facts_definitions.specs.Sites.{objects_sites}
use Rattle.types_tree.specs.View.{object_of}
use Rattle.flow_facts.proofs.sites.push_objects.Given as goal

abbrev pub invariant-loop-object : goal.invariant-loop-object
invariant-loop-object l = l.sites.items ++ objects_sites l.variables (map object_of (drop l.object-index l.objects)) ≡ l.fn.sites.items ++ objects_sites l.variables (map object_of l.objects)
