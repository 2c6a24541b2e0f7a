use Rattle.std.proofs.Common.{arith, ap, sym, ◌∙◌}
use Rattle.std.proofs.lemmas.Result.{MatchResult-weaker}
use Rattle.high_ir.specs.View.{statements_of}
use Rattle.high_parts.proofs.Making.{part_size, size_of_seq}
use Rattle.inliner.specs.Sites.{any_fits_all}
use Rattle.inliner.specs.View.{functions_of}
use Rattle.inliner.proofs.Walks.{fits_more, fits_none, fits_seq}
use Rattle.inliner.proofs.settling.+statements.Goals as goal

pub any_fits-any_fits_all-requires : goal.any_fits-any_fits_all-requires
any_fits-any_fits_all-requires t c =
    (omega (arith, c.decreases, size_of_seq c.args.statement.now c.in-Seq.parts c.deref.result.now c.in-Seq.is c.deref.ensures.value), c.requires)

pub any_fits-returns-in_ok-sum-in-Seq : goal.any_fits-returns-in_ok-sum-in-Seq
any_fits-returns-in_ok-sum-in-Seq t c =
    let scope = c.args.scope.now in
    MatchResult-weaker c.any_fits_all.result c.any_fits_all.ensures (λ found same.
    same
    ∙ ap (λ n. any_fits_all scope.limit (functions_of scope.functions.now) c.args.used n (statements_of c.deref.result.now)) c.in_ok-sum-in-Seq.ensures
    ∙ fits_seq scope.limit (functions_of scope.functions.now) c.args.used c.args.around c.args.statement.now c.in-Seq.parts c.deref.result.now c.in-Seq.is c.deref.ensures.value) (λ memory no_answer. no_answer)

pub any_fits_all-any_fits-requires : goal.any_fits_all-any_fits-requires
any_fits_all-any_fits-requires t c =
    (omega (arith, c.decreases, part_size c.args.parts.now c.loop-part.part-index c.part-item.result c.loop-part-test.true c.part-item.is), c.requires)

pub any_fits_all-loop-part-preserved : goal.any_fits_all-loop-part-preserved
any_fits_all-loop-part-preserved t c =
    let scope = c.args.scope.now in
    fits_more scope.limit (functions_of scope.functions.now) c.args.used c.args.around c.args.parts.now c.loop-part.part-index c.part-item.result c.loop-part-test.true c.part-item.is (sym c.in_ok-any_fits.ensures ∙ c.if-branch.false)
    ∙ c.loop-part.invariant

pub any_fits_all-returns : goal.any_fits_all-returns
any_fits_all-returns t c =
    let scope = c.args.scope.now in
    fits_none scope.limit (functions_of scope.functions.now) c.args.used c.args.around c.args.parts.now c.loop-part.part-index c.loop-part-test.false ∙ c.loop-part.invariant
