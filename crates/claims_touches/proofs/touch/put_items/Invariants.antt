use Rattle.std.proofs.Common.{◌≡◌, ◌++◌, drop}
use Rattle.claims_touches.specs.Named.{item_names}
use Rattle.claims_touches.proofs.touch.put_items.Given as goal

abbrev pub invariant-loop-item : goal.invariant-loop-item
invariant-loop-item l = l.touches.items ++ item_names (drop l.item-index l.items) ≡ l.initial.touches.items ++ item_names l.items
