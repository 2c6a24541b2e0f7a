use Rattle.std.proofs.Common.{◌+◌, arith, ap, sym, ◌∙◌}
use Rattle.unroller.proofs.Rows.{busy_seq}
use Rattle.unroller.proofs.measure.+statements.Goals as goal

pub busy-busy_all-requires : goal.busy-busy_all-requires
busy-busy_all-requires t c =
    let same = busy_seq c.args.statement.now c.in-Seq.parts c.deref.result.now c.in-Seq.is c.deref.ensures.value in
    (omega (arith, c.decreases, same), omega (arith, c.requires, same))

pub busy-overflow_add-result-in-Seq : goal.busy-overflow_add-result-in-Seq
busy-overflow_add-result-in-Seq t c =
    let same = busy_seq c.args.statement.now c.in-Seq.parts c.deref.result.now c.in-Seq.is c.deref.ensures.value in
    omega (arith, c.requires, same, c.busy_all.ensures)

pub busy-returns-in-Seq : goal.busy-returns-in-Seq
busy-returns-in-Seq t c =
    ap (λ n. n + 1) c.busy_all.ensures ∙ sym (busy_seq c.args.statement.now c.in-Seq.parts c.deref.result.now c.in-Seq.is c.deref.ensures.value)
