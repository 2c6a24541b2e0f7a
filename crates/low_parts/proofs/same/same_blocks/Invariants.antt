use Rattle.std.proofs.Common.{◌≡◌, ◌++◌, drop, map}
use Rattle.low_ir.specs.View.{block_of}
use Rattle.low_parts.proofs.same.same_blocks.Given as goal

abbrev pub invariant-loop-block : goal.invariant-loop-block
invariant-loop-block l = map block_of l.same.items ++ map block_of (drop l.block-index l.blocks) ≡ map block_of l.blocks
