use Rattle.std.proofs.Common.{◌≡◌, ◌+◌, ◌++◌, drop}
use Rattle.asm_items.specs.Placings.{blocks_size, starts_from}
use Rattle.asm_writing.proofs.sizes.starts_of.Given as goal

abbrev pub invariant-loop-block : goal.invariant-loop-block
invariant-loop-block l = record {
  starts : l.starts.items ++ starts_from l.next (drop l.block-index l.blocks) ≡ starts_from l.at l.blocks;
  room : l.next + blocks_size (drop l.block-index l.blocks) ≡ l.at + blocks_size l.blocks;
}
