use Rattle.std.proofs.Common.{◌≡◌, ◌+◌, drop, map}
use Rattle.types_tree.specs.View.{object_of}
use Rattle.plan_definition.specs.Statements.{fillings_in}
use Rattle.make_loops.proofs.before.fillings_in.Given as goal

abbrev pub invariant-loop-object : goal.invariant-loop-object
invariant-loop-object l = l.fillings + fillings_in (map object_of (drop l.object-index l.objects)) ≡ fillings_in (map object_of l.objects)
