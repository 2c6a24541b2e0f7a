use Rattle.std.proofs.Common.{◌≡◌, ◌+◌, ◌++◌, drop}
use Rattle.asm_items.specs.Placings.{blocks_size}
use Rattle.claims_movables.specs.Alone.{blocks_alone}
use Rattle.claims_movables.proofs.alone.put_blocks.Given as goal

abbrev pub invariant-loop-number : goal.invariant-loop-number
invariant-loop-number l = record {
  accesses : l.accesses.items ++ blocks_alone l.claims l.next l.touches l.number (drop l.number l.blocks) ≡ l.initial.accesses.items ++ blocks_alone l.claims l.at l.touches 0 l.blocks;
  room : l.next + blocks_size (drop l.number l.blocks) ≡ l.at + blocks_size l.blocks;
}
