use Rattle.std.proofs.Common.{◌+◌, arith, ap, sym, sum_by, ◌∙◌}
use Rattle.high_ir.specs.Size.{operations}
use Rattle.high_ir.specs.View.{statement_of}
use Rattle.try_forms.proofs.Few.{operations-Seq}
use Rattle.try_forms.proofs.operations.+statements.Goals as goal

pub of_statement-of_statements-requires : goal.of_statement-of_statements-requires
of_statement-of_statements-requires t c =
    let same = operations-Seq c.args.statement.now c.in-Seq.parts c.in-Seq.is ∙ ap (λ xs. sum_by (λ s. operations (statement_of s)) xs + 1) (sym c.deref.ensures.value) in
    (omega (arith, c.decreases, same), omega (arith, c.requires, same))

pub of_statement-overflow_add-result-in-Seq : goal.of_statement-overflow_add-result-in-Seq
of_statement-overflow_add-result-in-Seq t c =
    let same = operations-Seq c.args.statement.now c.in-Seq.parts c.in-Seq.is ∙ ap (λ xs. sum_by (λ s. operations (statement_of s)) xs + 1) (sym c.deref.ensures.value) in
    omega (arith, c.requires, same, c.of_statements.ensures)

pub of_statement-returns-in-Seq : goal.of_statement-returns-in-Seq
of_statement-returns-in-Seq t c =
    let same = operations-Seq c.args.statement.now c.in-Seq.parts c.in-Seq.is ∙ ap (λ xs. sum_by (λ s. operations (statement_of s)) xs + 1) (sym c.deref.ensures.value) in
    ap (λ n. n + 1) c.of_statements.ensures ∙ sym same
