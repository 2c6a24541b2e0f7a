use Rattle.std.proofs.Common.{◌≡◌, drop}
use Rattle.facts_definitions.specs.Starts.{items_leave}
use Rattle.types_tree.specs.View.{items_of}
use Rattle.facts_most.proofs.leaving.+leaving.Given as goal

abbrev pub invariant-items_leave-loop-item : goal.invariant-items_leave-loop-item
invariant-items_leave-loop-item l = items_leave l.own (items_of (drop l.item-index l.items)) ≡ items_leave l.own (items_of l.items)
