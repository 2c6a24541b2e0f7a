use Rattle.std.proofs.Common.{◌≡◌, ◌+◌, drop}
use Rattle.asm_items.specs.Items.{total}
use Rattle.asm_forms.specs.Shorter.{items_longest}
use Rattle.claims_movables.proofs.sizes.longest_of_items.Given as goal

abbrev pub invariant-loop-item : goal.invariant-loop-item
invariant-loop-item l = l.bytes + total (items_longest (drop l.item-index l.items)) ≡ total (items_longest l.items)
