use Rattle.std.proofs.Common.{◌≡◌, ◌++◌, drop}
use Rattle.asm_forms.specs.Shorter.{blocks_longest}
use Rattle.asm_forms.proofs.shorter.longest_blocks.Given as goal

abbrev pub invariant-loop-block : goal.invariant-loop-block
invariant-loop-block l = l.new.items ++ blocks_longest (drop l.block-index l.blocks) ≡ blocks_longest l.blocks
