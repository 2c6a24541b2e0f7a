use Rattle.std.proofs.Common.{◌≡◌, ◌+◌, drop, map}
use Rattle.low_ir.specs.View.{block_of}
use Rattle.claims_movables.specs.Near.{blocks_near}
use Rattle.claims_movables.proofs.near.blocks_near.Given as goal

abbrev pub invariant-loop-block : goal.invariant-loop-block
invariant-loop-block l = l.count + blocks_near l.memory (map block_of (drop l.block-index l.blocks)) ≡ blocks_near l.memory (map block_of l.blocks)
