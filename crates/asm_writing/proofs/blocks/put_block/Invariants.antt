use Rattle.std.proofs.Common.{◌≡◌, ◌+◌, ◌++◌, drop, map, true}
use Rattle.rv_core.specs.Words.{word_of}
use Rattle.asm_items.specs.Items.{total, all_words, in_rows}
use Rattle.asm_writing.specs.Targets.{starts_in}
use Rattle.asm_writing.proofs.blocks.put_block.Given as goal

abbrev pub invariant-loop-item : goal.invariant-loop-item
invariant-loop-item l = record {
  words : l.words.items ++ map word_of (all_words (starts_in l.starts) l.function l.next (drop l.item-index l.items)) ≡ l.initial.words.items ++ map word_of (all_words (starts_in l.starts) l.function l.at l.items);
  room : l.next + total (drop l.item-index l.items) ≡ l.at + total l.items;
  rows : in_rows (all_words (starts_in l.starts) l.function l.next (drop l.item-index l.items)) ≡ true;
}
