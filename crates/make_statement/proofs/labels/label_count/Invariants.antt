use Rattle.std.proofs.Common.{◌≡◌, ◌+◌, drop}
use Rattle.types_tree.specs.View.{items_of}
use Rattle.plan_definition.specs.Statements.{label_count}
use Rattle.make_statement.proofs.labels.label_count.Given as goal

abbrev pub invariant-loop-item : goal.invariant-loop-item
invariant-loop-item l = l.count + label_count (items_of (drop l.item-index l.items)) ≡ label_count (items_of l.items)
