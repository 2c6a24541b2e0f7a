use Rattle.std.proofs.Common.{◌+◌, ◌++◌, arith, length, ap, ◌∙◌}
use Rattle.std.proofs.lemmas.List.{length-map}
use Rattle.high_parts.proofs.Making.{part_size, size_of_seq}
use Rattle.high_code.specs.Code.{alone, joined}
use Rattle.high_ir.proofs.Rows.{statement_of-Seq}
use Rattle.high_ir.specs.Standing.{loops_of, marks_of}
use Rattle.high_ir.specs.Tree.{Seq}
use Rattle.high_ir.specs.View.{statement_of, statements_of}
use Rattle.high_renumber.specs.Numbered.{ids}
use Rattle.high_renumber.proofs.Numerals.{choice_loops, choice_made, choice_marks, choice_view, seq_loops, seq_marks, seq_numbered}
use Rattle.high_renumber.proofs.Walks.{length_behind, loops_done, loops_more, marks_done, marks_more, numbered_done, numbered_more, statements_pushed}
use Rattle.high_renumber.proofs.numbering.+statements.Goals as goal

pub numbered-numbered_all-requires : goal.numbered-numbered_all-requires
numbered-numbered_all-requires t c =
    (omega (arith, c.decreases, size_of_seq c.args.statement.now c.in-Seq.parts c.deref.result.now c.in-Seq.is c.deref.ensures.value), tt)

pub numbered-returns-in_ok-made-in-Seq-clause-made : goal.numbered-returns-in_ok-made-in-Seq-clause-made
numbered-returns-in_ok-made-in-Seq-clause-made t c =
    statement_of-Seq c.in_ok-made-in-Seq.made ∙ ap Seq c.in_ok-made-in-Seq.ensures.made
    ∙ seq_numbered c.args.statement.now c.in-Seq.parts c.deref.result.now c.in-Seq.is c.deref.ensures.value (length c.args.origins.now.marks.items) (length c.args.origins.now.loops.items)

pub numbered-returns-in_ok-made-in-Seq-clause-marks : goal.numbered-returns-in_ok-made-in-Seq-clause-marks
numbered-returns-in_ok-made-in-Seq-clause-marks t c =
    c.in_ok-made-in-Seq.ensures.marks ∙ ap (λ l. c.args.origins.now.marks.items ++ l) (seq_marks c.args.statement.now c.in-Seq.parts c.deref.result.now c.in-Seq.is c.deref.ensures.value)

pub numbered-returns-in_ok-made-in-Seq-clause-loops : goal.numbered-returns-in_ok-made-in-Seq-clause-loops
numbered-returns-in_ok-made-in-Seq-clause-loops t c =
    c.in_ok-made-in-Seq.ensures.loops ∙ ap (λ l. c.args.origins.now.loops.items ++ ids l) (seq_loops c.args.statement.now c.in-Seq.parts c.deref.result.now c.in-Seq.is c.deref.ensures.value)

pub numbered-returns-in_ok-made-in-If-clause-made : goal.numbered-returns-in_ok-made-in-If-clause-made
numbered-returns-in_ok-made-in-If-clause-made t c =
    choice_made c.args.statement.now _ _ _ _ _ _ _ _ _ (choice_view c.args.statement.now _ _ _ _ _ c.in-If.is c.deref-in-If.ensures c.deref-in-If-2.ensures)
    c.in_ok-made-in-If.ensures.made c.in_ok-first-in-If.ensures.made c.in_ok-first-in-If.ensures.marks c.in_ok-first-in-If.ensures.loops

pub numbered-returns-in_ok-made-in-If-clause-marks : goal.numbered-returns-in_ok-made-in-If-clause-marks
numbered-returns-in_ok-made-in-If-clause-marks t c =
    choice_marks c.args.statement.now _ _ _ _ _ _ (choice_view c.args.statement.now _ _ _ _ _ c.in-If.is c.deref-in-If.ensures c.deref-in-If-2.ensures) c.in_ok-first-in-If.ensures.marks c.in_ok-made-in-If.ensures.marks

pub numbered-returns-in_ok-made-in-If-clause-loops : goal.numbered-returns-in_ok-made-in-If-clause-loops
numbered-returns-in_ok-made-in-If-clause-loops t c =
    choice_loops c.args.statement.now _ _ _ _ _ _ (choice_view c.args.statement.now _ _ _ _ _ c.in-If.is c.deref-in-If.ensures c.deref-in-If-2.ensures) c.in_ok-first-in-If.ensures.loops c.in_ok-made-in-If.ensures.loops

pub numbered_all-numbered-requires : goal.numbered_all-numbered-requires
numbered_all-numbered-requires t c =
    (omega (arith, c.decreases, part_size c.args.parts.now c.loop-part.part-index c.part-item.result c.loop-part-test.true c.part-item.is), tt)

pub numbered_all-loop-part-preserved : goal.numbered_all-loop-part-preserved
numbered_all-loop-part-preserved t c =
    let before = c.loop-part.origins in
    let s = statement_of c.part-item.result in
    let marks = length_behind before.marks.items _ (marks_of s) c.in_ok-numbered.ensures.marks in
    let loops = length_behind before.loops.items _ (ids (loops_of s)) c.in_ok-numbered.ensures.loops ∙ ap (λ n. length before.loops.items + n) (length-map (loops_of s) (λ l. l.id)) in
    let made = statements_pushed c.loop-part.made.items _ c.in_ok-numbered.field-0 c.in_ok-push.ensures.items ∙ ap (λ x. joined (statements_of c.loop-part.made.items) (alone x)) c.in_ok-numbered.ensures.made in
    record {
      made =
          numbered_more (statements_of c.loop-part.made.items) _ c.args.parts.now c.loop-part.part-index c.part-item.result (length before.marks.items) (length before.loops.items) _ _ c.loop-part-test.true c.part-item.is made marks loops
          ∙ c.loop-part.invariant.made;
      marks = marks_more before.marks.items _ c.args.parts.now c.loop-part.part-index c.part-item.result c.loop-part-test.true c.part-item.is c.in_ok-numbered.ensures.marks ∙ c.loop-part.invariant.marks;
      loops = loops_more before.loops.items _ c.args.parts.now c.loop-part.part-index c.part-item.result c.loop-part-test.true c.part-item.is c.in_ok-numbered.ensures.loops ∙ c.loop-part.invariant.loops;
    }

pub numbered_all-returns-clause-made : goal.numbered_all-returns-clause-made
numbered_all-returns-clause-made t c =
    numbered_done (statements_of c.loop-part.made.items) _ (length c.loop-part.origins.marks.items) (length c.loop-part.origins.loops.items) c.args.parts.now c.loop-part.part-index c.loop-part-test.false c.loop-part.invariant.made

pub numbered_all-returns-clause-marks : goal.numbered_all-returns-clause-marks
numbered_all-returns-clause-marks t c = marks_done c.loop-part.origins.marks.items _ c.args.parts.now c.loop-part.part-index c.loop-part-test.false c.loop-part.invariant.marks

pub numbered_all-returns-clause-loops : goal.numbered_all-returns-clause-loops
numbered_all-returns-clause-loops t c = loops_done c.loop-part.origins.loops.items _ c.args.parts.now c.loop-part.part-index c.loop-part-test.false c.loop-part.invariant.loops
