use Rattle.std.proofs.Common.{◌≡◌, drop}
use Rattle.types_tree.specs.View.{items_of}
use Rattle.facts_loops.specs.Changes.{items_changes}
use Rattle.bound_finder.proofs.changing.+statements.Given as goal

abbrev pub invariant-items_changes-loop-item : goal.invariant-items_changes-loop-item
invariant-items_changes-loop-item l = items_changes l.object (items_of (drop l.item-index l.items)) ≡ items_changes l.object (items_of l.items)
