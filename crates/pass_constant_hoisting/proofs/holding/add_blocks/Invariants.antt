use Rattle.std.proofs.Common.{◌≡◌, ◌++◌, drop, map}
use Rattle.low_ir.specs.View.{block_of}
use Rattle.pass_constant_hoisting.specs.Holding.{held_block}
use Rattle.pass_constant_hoisting.proofs.holding.add_blocks.Given as goal

abbrev pub invariant-loop-block : goal.invariant-loop-block
invariant-loop-block l = map block_of l.all.items ++ map (held_block l.first l.words) (map block_of (drop l.block-index l.blocks)) ≡ map block_of l.initial.all.items ++ map (held_block l.first l.words) (map block_of l.blocks)
