use Rattle.std.proofs.Common.{◌≡◌, ◌+◌, drop}
use Rattle.asm_items.specs.Placings.{blocks_size}
use Rattle.claims_movables.proofs.sizes.size_of_blocks.Given as goal

abbrev pub invariant-loop-block : goal.invariant-loop-block
invariant-loop-block l = l.bytes + blocks_size (drop l.block-index l.blocks) ≡ blocks_size l.blocks
