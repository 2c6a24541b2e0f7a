use Rattle.std.proofs.Common.{◌≡◌, ◌++◌, drop, map}
use Rattle.types_tree.specs.View.{external_of}
use Rattle.high_ir.specs.View.{object_of}
use Rattle.plan_definition.specs.Layouts.{givens, objects_from}
use Rattle.make_program.specs.Parts.{given_of}
use Rattle.make_program.proofs.objects.objects.Given as goal

abbrev pub invariant-loop-variable : goal.invariant-loop-variable
invariant-loop-variable l = map object_of l.objects.items ++ objects_from (drop l.variable-index l.variables) (map given_of l.given.items) ≡ objects_from l.variables (givens (map external_of l.items))
