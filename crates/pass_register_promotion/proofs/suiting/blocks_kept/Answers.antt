use Rattle.std.proofs.Common.{map}
use Rattle.low_ir.specs.View.{block_of, claim_of}
use Rattle.pass_register_promotion_law.specs.Suiting.{BlockKept}
use Rattle.pass_register_promotion.specs.Residents.{residents_of, row_of, table_of}
use Rattle.low_parts.proofs.Filling.{all_done, all_step}
use Rattle.pass_register_promotion.proofs.suiting.blocks_kept.Goals as goal

pub loop-block-preserved : goal.loop-block-preserved
loop-block-preserved c =
    all_step block_of (BlockKept (map claim_of c.args.claims.now) (table_of (map row_of c.args.rows.now)) c.args.function (residents_of c.args.residents.now)) c.args.blocks.now c.loop-block.block-index c.block-item.result c.loop-block-test.true c.block-item.is c.loop-block.invariant (c.block_kept.ensures c.if-not-block_kept.false)

pub returns : goal.returns
returns c =
    λ done. all_done block_of (BlockKept (map claim_of c.args.claims.now) (table_of (map row_of c.args.rows.now)) c.args.function (residents_of c.args.residents.now)) c.args.blocks.now c.loop-block.block-index c.loop-block-test.false c.loop-block.invariant
