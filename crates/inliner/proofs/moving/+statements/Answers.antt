use Rattle.std.proofs.Common.{arith, ap, map, sym, ◌∙◌}
use Rattle.std.proofs.lemmas.Result.{MatchResult-weaker}
use Rattle.high_code.specs.Code.{alone, joined}
use Rattle.high_ir.proofs.Rows.{statement_of-Seq}
use Rattle.high_ir.specs.Tree.{Call, Seq}
use Rattle.high_renumber.proofs.Walks.{statements_pushed}
use Rattle.high_ir.specs.View.{expr_of, statement_of, statements_of}
use Rattle.high_parts.proofs.Making.{part_size, size_of_seq}
use Rattle.inliner.specs.Moving.{moved}
use Rattle.inliner.specs.View.{place_of}
use Rattle.inliner.proofs.Walks.{moved_done, moved_more, moved_seq}
use Rattle.inliner.proofs.moving.+statements.Goals as goal

pub moved-moved_all-requires : goal.moved-moved_all-requires
moved-moved_all-requires t c =
    (omega (arith, c.decreases, size_of_seq c.args.statement.now c.in-Seq.parts c.deref.result.now c.in-Seq.is c.deref.ensures.value), tt)

pub moved-returns-in-Keep : goal.moved-returns-in-Keep
moved-returns-in-Keep t c =
    MatchResult-weaker c.moved_keep.result c.moved_keep.ensures (λ keep made.
    made c.args.depth ∙ sym (ap (λ s. moved (place_of c.args.place.now) c.args.depth (statement_of s)) c.in-Keep.is)) (λ memory no_keep. no_keep)

pub moved-returns-in_ok-made-in-Seq : goal.moved-returns-in_ok-made-in-Seq
moved-returns-in_ok-made-in-Seq t c =
    statement_of-Seq c.in_ok-made-in-Seq.made ∙ ap Seq c.in_ok-made-in-Seq.ensures
    ∙ moved_seq (place_of c.args.place.now) c.args.depth c.args.statement.now c.in-Seq.parts c.deref.result.now c.in-Seq.is c.deref.ensures.value

pub moved_all-moved-requires : goal.moved_all-moved-requires
moved_all-moved-requires t c =
    (omega (arith, c.decreases, part_size c.args.parts.now c.loop-part.part-index c.part-item.result c.loop-part-test.true c.part-item.is), tt)

pub moved_all-loop-part-preserved : goal.moved_all-loop-part-preserved
moved_all-loop-part-preserved t c =
    let before = statements_of c.loop-part.made.items in
    moved_more (place_of c.args.place.now) c.args.depth before _ c.args.parts.now c.loop-part.part-index c.part-item.result c.loop-part-test.true c.part-item.is
    (statements_pushed c.loop-part.made.items _ c.in_ok-moved.field-0 c.in_ok-push.ensures.items ∙ ap (λ x. joined before (alone x)) c.in_ok-moved.ensures)
    ∙ c.loop-part.invariant

pub moved_all-returns : goal.moved_all-returns
moved_all-returns t c = moved_done (place_of c.args.place.now) c.args.depth (statements_of c.loop-part.made.items) _ c.args.parts.now c.loop-part.part-index c.loop-part-test.false c.loop-part.invariant

pub moved-returns-in-Call : goal.moved-returns-in-Call
moved-returns-in-Call t c =
    MatchResult-weaker c.moved_call.result c.moved_call.ensures (λ call made.
    made c.args.depth
    ∙ ap (λ v. moved (place_of c.args.place.now) c.args.depth (Call c.in-Call.function (map expr_of v) c.deref-in-Call-2.result.now c.in-Call.into)) c.deref-in-Call.ensures.value
    ∙ ap (λ a. moved (place_of c.args.place.now) c.args.depth (Call c.in-Call.function (map expr_of c.in-Call.values.items) a c.in-Call.into)) c.deref-in-Call-2.ensures.value
    ∙ sym (ap (λ s. moved (place_of c.args.place.now) c.args.depth (statement_of s)) c.in-Call.is)) (λ memory no_call. no_call)
