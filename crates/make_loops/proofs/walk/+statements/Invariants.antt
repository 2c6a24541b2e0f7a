use Rattle.std.proofs.Common.{◌≡◌, ◌++◌, drop}
use Rattle.types_tree.specs.View.{items_of}
use Rattle.make_loops.specs.Numbers.{items_numbers}
use Rattle.make_loops.proofs.walk.+statements.Given as goal

abbrev pub invariant-push_items-loop-item : goal.invariant-push_items-loop-item
invariant-push_items-loop-item l = l.loops.items ++ items_numbers (items_of (drop l.item-index l.items)) ≡ l.fn.loops.items ++ items_numbers (items_of l.items)
