use Rattle.std.proofs.Common.{◌≡◌, ◌+◌, drop, map}
use Rattle.facts_definitions.specs.Most.{cut, objects_most}
use Rattle.types_tree.specs.View.{object_of}
use Rattle.facts_most.specs.Items.{calls_by}
use Rattle.facts_most.proofs.declared.objects_most.Given as goal

abbrev pub invariant-loop-object : goal.invariant-loop-object
invariant-loop-object l = record {
  fits : cut l.most ≡ l.most;
  same : cut (l.most + objects_most l.bounds (calls_by l.calls) (map object_of (drop l.object-index l.objects))) ≡ cut (objects_most l.bounds (calls_by l.calls) (map object_of l.objects));
}
