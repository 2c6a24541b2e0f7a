use Rattle.std.proofs.Common.{◌≡◌, ◌<◌, ◌≤◌, length, map, subst}
use Rattle.std.specs.Prelude.{slice_index_or}
use Rattle.low_ir.specs.View.{claim_of, instr_of}
use Rattle.pass_register_promotion_law.specs.Suiting.{IsKept}
use Rattle.pass_register_promotion.specs.Residents.{residents_of, row_of, table_of}
use Rattle.low_parts.proofs.Filling.{all_done, all_step}
use Rattle.pass_register_promotion.proofs.suiting.block_kept.Goals as goal

pub loop-instr-preserved : goal.loop-instr-preserved
loop-instr-preserved c =
    all_step instr_of (IsKept (map claim_of c.args.claims.now) (table_of (map row_of c.args.rows.now)) c.args.function (residents_of c.args.residents.now)) c.args.block.now.code.items c.loop-instr.instr-index c.instr-item.result (subst (λ xs. c.loop-instr.instr-index < length xs) c.deref-instr-items.ensures.value c.loop-instr-test.true) (subst (λ xs. c.instr-item.result ≡ slice_index_or xs c.loop-instr.instr-index c.instr-item.result) c.deref-instr-items.ensures.value c.instr-item.is) c.loop-instr.invariant (c.is_kept.ensures c.if-not-is_kept.false)

pub returns : goal.returns
returns c =
    λ done. all_done instr_of (IsKept (map claim_of c.args.claims.now) (table_of (map row_of c.args.rows.now)) c.args.function (residents_of c.args.residents.now)) c.args.block.now.code.items c.loop-instr.instr-index (subst (λ xs. length xs ≤ c.loop-instr.instr-index) c.deref-instr-items.ensures.value c.loop-instr-test.false) c.loop-instr.invariant
