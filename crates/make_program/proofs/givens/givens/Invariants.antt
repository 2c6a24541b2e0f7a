use Rattle.std.proofs.Common.{◌≡◌, ◌++◌, drop, map}
use Rattle.types_tree.specs.View.{external_of}
use Rattle.plan_definition.specs.Layouts.{givens}
use Rattle.make_program.specs.Parts.{given_of}
use Rattle.make_program.proofs.givens.givens.Given as goal

abbrev pub invariant-loop-item : goal.invariant-loop-item
invariant-loop-item l = map given_of l.all.items ++ givens (map external_of (drop l.item-index l.items)) ≡ givens (map external_of l.items)
