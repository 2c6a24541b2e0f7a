use Rattle.std.proofs.Common.{◌≡◌, drop}
use Rattle.types_tree.specs.View.{items_of}
use Rattle.plan_definition.specs.Statements.{items_continue}
use Rattle.make_statement.proofs.continuing.+continuing.Given as goal

abbrev pub invariant-items_continue-loop-item : goal.invariant-items_continue-loop-item
invariant-items_continue-loop-item l = items_continue (items_of (drop l.item-index l.items)) ≡ items_continue (items_of l.items)
