use Rattle.std.proofs.Common.{◌+◌, arith, ap, sym, sum_by, ◌∙◌}
use Rattle.high_ir.specs.Size.{nodes}
use Rattle.high_ir.specs.View.{statement_of}
use Rattle.high_ir.proofs.Sizes.{nodes-Seq}
use Rattle.high_ir.proofs.measure.+statements.Goals as goal

pub statement_size-statements_size-requires : goal.statement_size-statements_size-requires
statement_size-statements_size-requires t c =
    let same = nodes-Seq c.args.statement.now c.in-Seq.parts c.in-Seq.is ∙ ap (λ xs. sum_by (λ s. nodes (statement_of s)) xs + 1) (sym c.deref.ensures.value) in
    (omega (arith, c.decreases, same), omega (arith, c.requires, same))

pub statement_size-overflow_add-result-in-Seq : goal.statement_size-overflow_add-result-in-Seq
statement_size-overflow_add-result-in-Seq t c =
    let same = nodes-Seq c.args.statement.now c.in-Seq.parts c.in-Seq.is ∙ ap (λ xs. sum_by (λ s. nodes (statement_of s)) xs + 1) (sym c.deref.ensures.value) in
    omega (arith, c.requires, same, c.statements_size.ensures)

pub statement_size-returns-in-Seq : goal.statement_size-returns-in-Seq
statement_size-returns-in-Seq t c =
    let same = nodes-Seq c.args.statement.now c.in-Seq.parts c.in-Seq.is ∙ ap (λ xs. sum_by (λ s. nodes (statement_of s)) xs + 1) (sym c.deref.ensures.value) in
    ap (λ n. n + 1) c.statements_size.ensures ∙ sym same
