use Rattle.std.proofs.Common.{◌≡◌, ◌+◌, ◌++◌, drop}
use Rattle.asm_items.specs.Placings.{blocks_size}
use Rattle.claims_regions.specs.Singles.{blocks_singles}
use Rattle.claims_regions.proofs.walks.put_blocks.Given as goal

abbrev pub invariant-loop-number : goal.invariant-loop-number
invariant-loop-number l = record {
  lines : l.lines.items ++ blocks_singles l.next l.touched l.number (drop l.number l.blocks) ≡ l.initial.lines.items ++ blocks_singles l.at l.touched 0 l.blocks;
  room : l.next + blocks_size (drop l.number l.blocks) ≡ l.at + blocks_size l.blocks;
}
