use Rattle.std.proofs.Common.{◌≡◌, ◌+◌, ◌++◌, drop}
use Rattle.asm_items.specs.Placings.{blocks_size}
use Rattle.asm_writing.specs.Targets.{starts_in}
use Rattle.asm_forms.specs.Shorter.{blocks_shorter}
use Rattle.asm_forms.proofs.shorter.shorter_blocks.Given as goal

abbrev pub invariant-loop-block : goal.invariant-loop-block
invariant-loop-block l = record {
  new : l.new.items ++ blocks_shorter (starts_in l.starts) l.function l.next (drop l.block-index l.blocks) ≡ blocks_shorter (starts_in l.starts) l.function l.at l.blocks;
  room : l.next + blocks_size (drop l.block-index l.blocks) ≡ l.at + blocks_size l.blocks;
}
