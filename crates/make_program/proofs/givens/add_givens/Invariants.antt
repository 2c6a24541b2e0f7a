use Rattle.std.proofs.Common.{◌≡◌, List, ◌++◌, drop, map}
use Rattle.types_tree.specs.View.{object_of}
use Rattle.plan_definition.specs.Layouts.{Given, givens_of}
use Rattle.make_program.specs.Parts.{given_of}
use Rattle.make_program.proofs.givens.add_givens.Given as goal

abbrev pub invariant-loop-object : goal.invariant-loop-object
invariant-loop-object l = (behind : List Given) → map given_of l.all.items ++ givens_of l.constant (map object_of (drop l.object-index l.objects)) behind ≡ map given_of l.fn.all.items ++ givens_of l.constant (map object_of l.objects) behind
