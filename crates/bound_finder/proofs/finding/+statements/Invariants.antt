use Rattle.std.proofs.Common.{◌≡◌, ◌++◌, drop}
use Rattle.types_tree.specs.View.{items_of}
use Rattle.facts_loops.specs.CountingLoops.{items_loops}
use Rattle.bound_finder.proofs.finding.+statements.Given as goal

abbrev pub invariant-push_items-loop-item : goal.invariant-push_items-loop-item
invariant-push_items-loop-item l = l.loops.items ++ items_loops l.variables (items_of (drop l.item-index l.items)) ≡ l.fn.loops.items ++ items_loops l.variables (items_of l.items)
