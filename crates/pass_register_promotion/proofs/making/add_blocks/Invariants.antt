use Rattle.std.proofs.Common.{◌≡◌, ◌++◌, drop, map}
use Rattle.low_ir.specs.View.{block_of}
use Rattle.pass_register_promotion_law.specs.Promoting.{promoted_block}
use Rattle.pass_register_promotion.specs.Residents.{residents_of}
use Rattle.pass_register_promotion.proofs.making.add_blocks.Given as goal

abbrev pub invariant-loop-block : goal.invariant-loop-block
invariant-loop-block l = map block_of l.all.items ++ map (promoted_block l.first (residents_of l.residents)) (map block_of (drop l.block-index l.blocks)) ≡ map block_of l.initial.all.items ++ map (promoted_block l.first (residents_of l.residents)) (map block_of l.blocks)
