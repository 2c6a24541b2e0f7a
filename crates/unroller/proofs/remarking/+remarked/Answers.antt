use Rattle.std.proofs.Common.{arith, ◌∙◌}
use Rattle.high_ir.specs.View.{expr_of, statement_of}
use Rattle.high_parts.proofs.Making.{part_size, size_of_seq}
use Rattle.high_ir.specs.Standing.{marks_of}
use Rattle.unroller.specs.View.{progress_of}
use Rattle.unroller.proofs.Progress.{all_copied, all_remarked, both_remarked, copied_twice, part_copied, part_remarked, seq_copied, seq_remarked}
use Rattle.unroller.proofs.remarking.+remarked.Goals as goal

pub remarked-remarked_all-requires : goal.remarked-remarked_all-requires
remarked-remarked_all-requires t c = (omega (arith, c.decreases, size_of_seq c.args.statement.now c.in-Seq.parts c.deref.result.now c.in-Seq.is c.deref.ensures.value), tt)

pub remarked-returns-in_ok-made-in-Seq-clause-code : goal.remarked-returns-in_ok-made-in-Seq-clause-code
remarked-returns-in_ok-made-in-Seq-clause-code t c =
    seq_remarked c.args.walk.now.marks c.args.statement.now c.in-Seq.parts c.deref.result.now c.in_ok-made-in-Seq.made c.in-Seq.is c.deref.ensures.value c.in_ok-made-in-Seq.ensures.code

pub remarked-returns-in_ok-made-in-Seq-clause-progress : goal.remarked-returns-in_ok-made-in-Seq-clause-progress
remarked-returns-in_ok-made-in-Seq-clause-progress t c =
    seq_copied (progress_of c.args.walk.now) _ c.args.statement.now c.in-Seq.parts c.deref.result.now c.in-Seq.is c.deref.ensures.value c.in_ok-made-in-Seq.ensures.progress

pub remarked_all-remarked-requires : goal.remarked_all-remarked-requires
remarked_all-remarked-requires t c = (omega (arith, c.decreases, part_size c.args.parts.now c.loop-part.part-index c.part-item.result c.loop-part-test.true c.part-item.is), tt)

pub remarked_all-loop-part-preserved : goal.remarked_all-loop-part-preserved
remarked_all-loop-part-preserved t c =
    record {
      code =
          part_remarked c.args.parts.now c.loop-part.made.items _ c.loop-part.part-index c.part-item.result _ (progress_of c.loop-part.walk) _
          c.loop-part-test.true c.part-item.is c.in_ok-remarked.ensures.code c.in_ok-remarked.ensures.progress c.in_ok-push.ensures.items
          ∙ c.loop-part.invariant.code;
      progress =
          part_copied c.args.parts.now c.loop-part.part-index c.part-item.result (progress_of c.loop-part.walk) _ c.loop-part-test.true c.part-item.is c.in_ok-remarked.ensures.progress
          ∙ c.loop-part.invariant.progress;
    }

pub remarked_all-returns-clause-code : goal.remarked_all-returns-clause-code
remarked_all-returns-clause-code t c =
    all_remarked c.args.parts.now c.loop-part.made.items c.loop-part.part-index c.loop-part.walk.marks c.loop-part-test.false ∙ c.loop-part.invariant.code

pub remarked_all-returns-clause-progress : goal.remarked_all-returns-clause-progress
remarked_all-returns-clause-progress t c =
    all_copied c.args.parts.now c.loop-part.part-index (progress_of c.loop-part.walk) c.loop-part-test.false ∙ c.loop-part.invariant.progress

pub remarked_choice-returns-in_ok-chosen-in-Ok-clause-code : goal.remarked_choice-returns-in_ok-chosen-in-Ok-clause-code
remarked_choice-returns-in_ok-chosen-in-Ok-clause-code t c =
    both_remarked (progress_of c.args.walk.now) _ (expr_of c.args.test.now) (statement_of c.args.first.now) (statement_of c.args.other.now) _ _ _
    c.in_ok-first.ensures.code c.in_ok-first.ensures.progress c.in-Ok.ensures.code c.in_ok-chosen-in-Ok.ensures

pub remarked_choice-returns-in_ok-chosen-in-Ok-clause-progress : goal.remarked_choice-returns-in_ok-chosen-in-Ok-clause-progress
remarked_choice-returns-in_ok-chosen-in-Ok-clause-progress t c =
    copied_twice (progress_of c.args.walk.now) _ _ (marks_of (statement_of c.args.first.now)) (marks_of (statement_of c.args.other.now)) c.in_ok-first.ensures.progress c.in-Ok.ensures.progress
