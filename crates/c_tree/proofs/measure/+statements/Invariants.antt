use Rattle.std.proofs.Common.{◌≡◌, ◌+◌, ◌*◌, drop}
use Rattle.c_tree.specs.Size.{empty, size_items, size_statement}
use Rattle.c_tree.specs.Tree.{NoItem}
use Rattle.c_tree.specs.View.{item_size, items_of, statement_of}
use Rattle.c_tree.proofs.Sizes.{sizes}
use Rattle.c_tree.proofs.measure.+statements.Given as goal

abbrev pub invariant-measure_items-loop-item : goal.invariant-measure_items-loop-item
invariant-measure_items-loop-item l = sizes item_size l.sum (drop l.item-index l.items) ≡ sizes item_size empty l.items

abbrev pub decreases-measure_statement : goal.decreases-measure_statement
decreases-measure_statement l = 3 * (size_statement (statement_of l.statement.now)).nodes

abbrev pub decreases-measure_item : goal.decreases-measure_item
decreases-measure_item l = 3 * (item_size l.item.now).nodes + 1

abbrev pub decreases-measure_items : goal.decreases-measure_items
decreases-measure_items l = 3 * (size_items (items_of NoItem l.items.now)).nodes + 2
