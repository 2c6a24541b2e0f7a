use Rattle.std.proofs.Common.{◌≡◌, ◌+◌, drop}
use Rattle.asm_items.specs.Items.{total, all_words, in_rows}
use Rattle.asm_writing.specs.Targets.{starts_in}
use Rattle.asm_forms.specs.Sound.{AreSound}
use Rattle.asm_forms.proofs.fits.block_fits.Given as goal

abbrev pub invariant-loop-item : goal.invariant-loop-item
invariant-loop-item l = record {
  rows : in_rows (all_words (starts_in l.starts) l.function l.next (drop l.item-index l.items)) ≡ in_rows (all_words (starts_in l.starts) l.function l.at l.items);
  room : l.next + total (drop l.item-index l.items) ≡ l.at + total l.items;
  sound : AreSound (drop l.item-index l.items);
}
