use Rattle.std.proofs.Common.{map, take}
use Rattle.std.specs.Prelude.{All}
use Rattle.low_ir.specs.View.{block_of, claim_of}
use Rattle.pass_register_promotion_law.specs.Suiting.{BlockKept}
use Rattle.pass_register_promotion.specs.Residents.{residents_of, row_of, table_of}
use Rattle.pass_register_promotion.proofs.suiting.blocks_kept.Given as goal

abbrev pub invariant-loop-block : goal.invariant-loop-block
invariant-loop-block l = All (BlockKept (map claim_of l.claims) (table_of (map row_of l.rows)) l.function (residents_of l.residents)) (map block_of (take l.block-index l.blocks))
