use Rattle.std.proofs.Common.{◌≡◌, ◌+◌, ◌++◌, drop}
use Rattle.asm_items.specs.Items.{total}
use Rattle.asm_writing.specs.Targets.{starts_in}
use Rattle.asm_forms.specs.Shorter.{items_shorter}
use Rattle.asm_forms.proofs.shorter.shorter_items.Given as goal

abbrev pub invariant-loop-item : goal.invariant-loop-item
invariant-loop-item l = record {
  new : l.new.items ++ items_shorter (starts_in l.starts) l.function l.next (drop l.item-index l.items) ≡ items_shorter (starts_in l.starts) l.function l.at l.items;
  room : l.next + total (drop l.item-index l.items) ≡ l.at + total l.items;
}
