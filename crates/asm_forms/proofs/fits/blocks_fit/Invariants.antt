use Rattle.std.proofs.Common.{◌≡◌, ◌+◌, drop}
use Rattle.asm_items.specs.Items.{in_rows}
use Rattle.asm_items.specs.Placings.{blocks_size, blocks_words}
use Rattle.asm_writing.specs.Targets.{starts_in}
use Rattle.asm_forms.specs.Sound.{BlocksSound}
use Rattle.asm_forms.proofs.fits.blocks_fit.Given as goal

abbrev pub invariant-loop-block : goal.invariant-loop-block
invariant-loop-block l = record {
  rows : in_rows (blocks_words (starts_in l.starts) l.function l.next (drop l.block-index l.blocks)) ≡ in_rows (blocks_words (starts_in l.starts) l.function l.at l.blocks);
  room : l.next + blocks_size (drop l.block-index l.blocks) ≡ l.at + blocks_size l.blocks;
  sound : BlocksSound (drop l.block-index l.blocks);
}
