use Rattle.std.proofs.Common.{◌≡◌, ◌+◌, ◌++◌, drop}
use Rattle.asm_items.specs.Items.{total}
use Rattle.claims_movables.specs.Alone.{items_alone}
use Rattle.claims_movables.proofs.alone.put_items.Given as goal

abbrev pub invariant-loop-number : goal.invariant-loop-number
invariant-loop-number l = record {
  accesses : l.accesses.items ++ items_alone l.claims l.next l.touches l.number (drop l.number l.items) ≡ l.initial.accesses.items ++ items_alone l.claims l.at l.touches 0 l.items;
  room : l.next + total (drop l.number l.items) ≡ l.at + total l.items;
}
