use Rattle.std.proofs.Common.{◌≡◌, ◌+◌, ◌++◌, drop}
use Rattle.asm_items.specs.Items.{total}
use Rattle.asm_placed.specs.Exits.{items_exits}
use Rattle.asm_rows.proofs.leaving.put_items.Given as goal

abbrev pub invariant-loop-item : goal.invariant-loop-item
invariant-loop-item l = record {
  exits : l.exits.items ++ items_exits l.next (drop l.item-index l.items) ≡ l.initial.exits.items ++ items_exits l.at l.items;
  room : l.next + total (drop l.item-index l.items) ≡ l.at + total l.items;
}
