use Rattle.std.proofs.Common.{◌≡◌, drop}
use Rattle.types_tree.specs.View.{items_of}
use Rattle.plan_definition.specs.Statements.{default_number}
use Rattle.make_statement.proofs.labels.default_number.Given as goal

abbrev pub invariant-loop-item : goal.invariant-loop-item
invariant-loop-item l = default_number (items_of (drop l.item-index l.items)) l.number ≡ default_number (items_of l.items) 1
