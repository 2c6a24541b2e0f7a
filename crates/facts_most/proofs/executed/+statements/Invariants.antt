use Rattle.std.proofs.Common.{◌≡◌, ◌+◌, drop}
use Rattle.facts_definitions.specs.Most.{cut, items_most}
use Rattle.types_tree.specs.View.{items_of}
use Rattle.facts_most.specs.Items.{calls_by}
use Rattle.facts_most.proofs.executed.+statements.Given as goal

abbrev pub invariant-items_most-loop-item : goal.invariant-items_most-loop-item
invariant-items_most-loop-item l = record {
  fits : cut l.most ≡ l.most;
  same : cut (l.most + items_most l.bounds (calls_by l.calls) (items_of (drop l.item-index l.items))) ≡ cut (items_most l.bounds (calls_by l.calls) (items_of l.items));
}
