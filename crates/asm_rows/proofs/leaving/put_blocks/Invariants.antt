use Rattle.std.proofs.Common.{◌≡◌, ◌+◌, ◌++◌, drop}
use Rattle.asm_items.specs.Placings.{blocks_size}
use Rattle.asm_placed.specs.Exits.{blocks_exits}
use Rattle.asm_rows.proofs.leaving.put_blocks.Given as goal

abbrev pub invariant-loop-block : goal.invariant-loop-block
invariant-loop-block l = record {
  exits : l.exits.items ++ blocks_exits l.next (drop l.block-index l.blocks) ≡ l.initial.exits.items ++ blocks_exits l.at l.blocks;
  room : l.next + blocks_size (drop l.block-index l.blocks) ≡ l.at + blocks_size l.blocks;
}
