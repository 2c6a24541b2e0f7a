use Rattle.std.proofs.Common.{◌≡◌, ◌+◌, drop}
use Rattle.asm_items.specs.Items.{total}
use Rattle.asm_writing.proofs.sizes.bytes_of.Given as goal

abbrev pub invariant-loop-item : goal.invariant-loop-item
invariant-loop-item l = l.bytes + total (drop l.item-index l.items) ≡ total l.items
