use Rattle.std.proofs.Common.{◌≡◌, ◌++◌, drop}
use Rattle.types_calls.specs.Calls.{items_calls}
use Rattle.types_tree.specs.View.{items_of}
use Rattle.call_graph.proofs.calls.+statements.Given as goal

abbrev pub invariant-add_items-loop-item : goal.invariant-add_items-loop-item
invariant-add_items-loop-item l = l.calls.items ++ items_calls (items_of (drop l.item-index l.items)) ≡ l.fn.calls.items ++ items_calls (items_of l.items)
