use Rattle.std.proofs.Common.{◌≡◌, ◌+◌, drop}
use Rattle.asm_items.specs.Placings.{blocks_size}
use Rattle.asm_forms.specs.Shorter.{blocks_longest}
use Rattle.claims_movables.proofs.sizes.longest_of.Given as goal

abbrev pub invariant-loop-block : goal.invariant-loop-block
invariant-loop-block l = l.bytes + blocks_size (blocks_longest (drop l.block-index l.blocks)) ≡ blocks_size (blocks_longest l.blocks)
