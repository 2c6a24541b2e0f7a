use Rattle.std.proofs.Common.{map, take}
use Rattle.std.specs.Prelude.{All}
use Rattle.low_ir.specs.View.{claim_of, instr_of}
use Rattle.pass_register_promotion_law.specs.Suiting.{IsKept}
use Rattle.pass_register_promotion.specs.Residents.{residents_of, row_of, table_of}
use Rattle.pass_register_promotion.proofs.suiting.block_kept.Given as goal

abbrev pub invariant-loop-instr : goal.invariant-loop-instr
invariant-loop-instr l = All (IsKept (map claim_of l.claims) (table_of (map row_of l.rows)) l.function (residents_of l.residents)) (map instr_of (take l.instr-index l.block.code.items))
