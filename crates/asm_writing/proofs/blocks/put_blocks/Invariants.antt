use Rattle.std.proofs.Common.{◌≡◌, ◌+◌, ◌++◌, drop, map, true}
use Rattle.rv_core.specs.Words.{word_of}
use Rattle.asm_items.specs.Items.{in_rows}
use Rattle.asm_items.specs.Placings.{blocks_size, blocks_words}
use Rattle.asm_writing.specs.Targets.{starts_in}
use Rattle.asm_writing.proofs.blocks.put_blocks.Given as goal

abbrev pub invariant-loop-block : goal.invariant-loop-block
invariant-loop-block l = record {
  words : l.words.items ++ map word_of (blocks_words (starts_in l.starts) l.function l.next (drop l.block-index l.blocks)) ≡ l.initial.words.items ++ map word_of (blocks_words (starts_in l.starts) l.function l.at l.blocks);
  room : l.next + blocks_size (drop l.block-index l.blocks) ≡ l.at + blocks_size l.blocks;
  rows : in_rows (blocks_words (starts_in l.starts) l.function l.next (drop l.block-index l.blocks)) ≡ true;
}
