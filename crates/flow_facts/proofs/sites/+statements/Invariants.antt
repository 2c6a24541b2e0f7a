use Rattle.std.proofs.Common.{◌≡◌, ◌++◌, drop}
use Rattle.facts_definitions.specs.Sites.{items_sites}
use Rattle.types_tree.specs.View.{items_of}
use Rattle.flow_facts.proofs.sites.+statements.Given as goal

abbrev pub invariant-push_items-loop-item : goal.invariant-push_items-loop-item
invariant-push_items-loop-item l = l.sites.items ++ items_sites l.variables (items_of (drop l.item-index l.items)) ≡ l.fn.sites.items ++ items_sites l.variables (items_of l.items)
