use Rattle.std.proofs.Common.{arith, ap, ◌∙◌}
use Rattle.std.proofs.lemmas.Result.{MatchResult-weaker}
use Rattle.high_ir.specs.View.{statements_of}
use Rattle.high_parts.proofs.Making.{part_size, size_of_seq}
use Rattle.inliner.specs.Measures.{beside, measured_all, within}
use Rattle.inliner.proofs.Walks.{measured_done, measured_more, measured_seq, none-beside}
use Rattle.inliner.proofs.measuring.+statements.Goals as goal

pub measured-measured_all-requires : goal.measured-measured_all-requires
measured-measured_all-requires t c =
    (omega (arith, c.decreases, size_of_seq c.args.statement.now c.in-Seq.parts c.deref.result.now c.in-Seq.is c.deref.ensures.value), tt)

pub measured-returns-in_ok-parts-in-Seq : goal.measured-returns-in_ok-parts-in-Seq
measured-returns-in_ok-parts-in-Seq t c =
    MatchResult-weaker c.within-in-Seq.result c.within-in-Seq.ensures (λ all made.
    made ∙ ap within c.in_ok-parts-in-Seq.ensures ∙ measured_seq c.args.returns c.args.statement.now c.in-Seq.parts c.deref.result.now c.in-Seq.is c.deref.ensures.value) (λ memory no_measure. no_measure)

pub measured_all-measured-requires : goal.measured_all-measured-requires
measured_all-measured-requires t c =
    (omega (arith, c.decreases, part_size c.args.parts.now c.loop-part.part-index c.part-item.result c.loop-part-test.true c.part-item.is), tt)

pub measured_all-loop-part-init : goal.measured_all-loop-part-init
measured_all-loop-part-init t c = ap (λ m. beside m (measured_all c.args.returns (statements_of c.args.parts.now))) c.none-all.ensures ∙ none-beside (measured_all c.args.returns (statements_of c.args.parts.now))

pub measured_all-loop-part-preserved : goal.measured_all-loop-part-preserved
measured_all-loop-part-preserved t c =
    measured_more c.args.returns c.loop-part.all _ c.args.parts.now c.loop-part.part-index c.part-item.result c.loop-part-test.true c.part-item.is (c.in_ok-all.ensures ∙ ap (beside c.loop-part.all) c.in_ok-measured.ensures)
    ∙ c.loop-part.invariant

pub measured_all-returns : goal.measured_all-returns
measured_all-returns t c = measured_done c.args.returns c.loop-part.all _ c.args.parts.now c.loop-part.part-index c.loop-part-test.false c.loop-part.invariant
