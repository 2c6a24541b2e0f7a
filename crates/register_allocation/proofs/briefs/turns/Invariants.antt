use Rattle.std.proofs.Common.{◌≡◌, ◌++◌, drop, map}
use Rattle.low_ir.specs.View.{block_of}
use Rattle.register_allocation.specs.Briefs.{blocks_turns}
use Rattle.register_allocation.proofs.briefs.turns.Given as goal

abbrev pub invariant-loop-block : goal.invariant-loop-block
invariant-loop-block l = l.turns.items ++ blocks_turns (map block_of (drop l.block-index l.function.blocks.items)) ≡ blocks_turns (map block_of l.function.blocks.items)
