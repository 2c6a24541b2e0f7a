use Rattle.std.proofs.Common.{◌≡◌, ◌+◌, ◌++◌, drop}
use Rattle.asm_items.specs.Items.{total}
use Rattle.claims_regions.specs.Singles.{items_singles}
use Rattle.claims_regions.proofs.walks.put_items.Given as goal

abbrev pub invariant-loop-number : goal.invariant-loop-number
invariant-loop-number l = record {
  lines : l.lines.items ++ items_singles l.next l.touched l.number (drop l.number l.items) ≡ l.initial.lines.items ++ items_singles l.at l.touched 0 l.items;
  room : l.next + total (drop l.number l.items) ≡ l.at + total l.items;
}
