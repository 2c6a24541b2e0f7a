use Rattle.std.proofs.Common.{arith, ap, ◌∙◌}
use Rattle.high_ir.proofs.Rows.{statement_of-Seq}
use Rattle.high_renumber.proofs.Walks.{statements_pushed}
use Rattle.high_ir.specs.View.{statements_of}
use Rattle.high_parts.proofs.Making.{part_size, size_of_seq}
use Rattle.inliner.specs.View.{functions_of}
use Rattle.inliner.specs.Walking.{behind, opened_all, seq, walked, walked_all}
use Rattle.inliner.proofs.Walks.{opened_done, opened_more, opened_seq}
use Rattle.inliner.proofs.walking.+statements.Goals as goal

pub opened-opened_all-requires : goal.opened-opened_all-requires
opened-opened_all-requires t c =
    (omega (arith, c.decreases, size_of_seq c.args.statement.now c.in-Seq.parts c.deref.result.now c.in-Seq.is c.deref.ensures.value), c.requires)

pub opened-returns-in_ok-made-in-Seq : goal.opened-returns-in_ok-made-in-Seq
opened-returns-in_ok-made-in-Seq t c =
    let scope = c.args.scope.now in
    ap (λ s. walked s c.opened_all.new.used) (statement_of-Seq c.in_ok-made-in-Seq.made)
    ∙ ap seq c.in_ok-made-in-Seq.ensures
    ∙ ap (λ n. seq (opened_all scope.limit (functions_of scope.functions.now) n (statements_of c.deref.result.now) c.args.used.now)) c.in_ok-sum-in-Seq.ensures
    ∙ opened_seq scope.limit (functions_of scope.functions.now) c.args.around c.args.used.now c.args.statement.now c.in-Seq.parts c.deref.result.now c.in-Seq.is c.deref.ensures.value

pub opened_all-opened-requires : goal.opened_all-opened-requires
opened_all-opened-requires t c =
    (omega (arith, c.decreases, part_size c.args.parts.now c.loop-part.part-index c.part-item.result c.loop-part-test.true c.part-item.is), c.requires)

pub opened_all-loop-part-preserved : goal.opened_all-loop-part-preserved
opened_all-loop-part-preserved t c =
    let scope = c.args.scope.now in
    let before = statements_of c.loop-part.made.items in
    opened_more scope.limit (functions_of scope.functions.now) c.args.around before _ c.loop-part.used _ c.args.parts.now c.loop-part.part-index c.part-item.result c.loop-part-test.true c.part-item.is
    (ap (λ a. walked_all a c.opened.new.used) (statements_pushed c.loop-part.made.items _ c.in_ok-opened.field-0 c.in_ok-push.ensures.items) ∙ ap (behind before) c.in_ok-opened.ensures)
    ∙ c.loop-part.invariant

pub opened_all-returns : goal.opened_all-returns
opened_all-returns t c =
    let scope = c.args.scope.now in
    opened_done scope.limit (functions_of scope.functions.now) c.args.around (statements_of c.loop-part.made.items) _ c.loop-part.used c.args.parts.now c.loop-part.part-index c.loop-part-test.false c.loop-part.invariant
