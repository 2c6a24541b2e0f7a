use Rattle.std.proofs.Common.{◌≤◌, ◌+◌, drop}
use Rattle.asm_items.specs.Placings.{blocks_size}
use Rattle.asm_forms.specs.Shorter.{blocks_longest}
use Rattle.layout_cases.proofs.rooms.blocks_few.Given as goal

abbrev pub invariant-loop-block : goal.invariant-loop-block
invariant-loop-block l = blocks_size (blocks_longest l.blocks) ≤ l.sum + blocks_size (blocks_longest (drop l.block-index l.blocks))
