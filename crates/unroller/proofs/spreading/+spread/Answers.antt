use Rattle.std.proofs.Common.{arith, ◌∙◌}
use Rattle.high_ir.specs.View.{expr_of, statement_of}
use Rattle.high_parts.proofs.Making.{part_size, size_of_seq}
use Rattle.unroller.specs.View.{progress_of}
use Rattle.unroller.proofs.Progress.{all_gone, all_spread, both_go, both_spread, kept_code, kept_goes, part_goes, part_spread, seq_goes, seq_spread, taken_code, taken_goes}
use Rattle.unroller.proofs.Rows.{depth_seq, part_depth}
use Rattle.unroller.proofs.spreading.+spread.Goals as goal

pub spread-spread_all-requires : goal.spread-spread_all-requires
spread-spread_all-requires t c =
    let size = size_of_seq c.args.statement.now c.in-Seq.parts c.deref.result.now c.in-Seq.is c.deref.ensures.value in
    let deep = depth_seq c.args.statement.now c.in-Seq.parts c.deref.result.now c.in-Seq.is c.deref.ensures.value in
    (omega (arith, c.decreases, size), (omega (arith, c.requires.0, deep), omega (arith, c.requires.1, size)))

pub spread-returns-in_ok-made-in-Seq-clause-code : goal.spread-returns-in_ok-made-in-Seq-clause-code
spread-returns-in_ok-made-in-Seq-clause-code t c =
    seq_spread c.args.factor c.args.level (progress_of c.args.walk.now) c.args.statement.now c.in-Seq.parts c.deref.result.now c.in_ok-made-in-Seq.made c.in-Seq.is c.deref.ensures.value c.in_ok-made-in-Seq.ensures.code

pub spread-returns-in_ok-made-in-Seq-clause-progress : goal.spread-returns-in_ok-made-in-Seq-clause-progress
spread-returns-in_ok-made-in-Seq-clause-progress t c =
    seq_goes c.args.factor c.args.level (progress_of c.args.walk.now) _ c.args.statement.now c.in-Seq.parts c.deref.result.now c.in-Seq.is c.deref.ensures.value c.in_ok-made-in-Seq.ensures.progress

pub spread_all-spread-requires : goal.spread_all-spread-requires
spread_all-spread-requires t c =
    let size = part_size c.args.parts.now c.loop-part.part-index c.part-item.result c.loop-part-test.true c.part-item.is in
    let deep = part_depth c.args.parts.now c.loop-part.part-index c.part-item.result c.loop-part-test.true c.part-item.is in
    (omega (arith, c.decreases, size), (omega (arith, c.requires.0, deep), omega (arith, c.requires.1, size)))

pub spread_all-loop-part-preserved : goal.spread_all-loop-part-preserved
spread_all-loop-part-preserved t c =
    record {
      code =
          part_spread c.args.factor c.args.level c.args.parts.now c.loop-part.made.items _ c.loop-part.part-index c.part-item.result _ (progress_of c.loop-part.walk) _
          c.loop-part-test.true c.part-item.is c.in_ok-spread.ensures.code c.in_ok-spread.ensures.progress c.in_ok-push.ensures.items
          ∙ c.loop-part.invariant.code;
      progress =
          part_goes c.args.factor c.args.level c.args.parts.now c.loop-part.part-index c.part-item.result (progress_of c.loop-part.walk) _ c.loop-part-test.true c.part-item.is c.in_ok-spread.ensures.progress
          ∙ c.loop-part.invariant.progress;
    }

pub spread_all-returns-clause-code : goal.spread_all-returns-clause-code
spread_all-returns-clause-code t c =
    all_spread c.args.factor c.args.level c.args.parts.now c.loop-part.made.items c.loop-part.part-index (progress_of c.loop-part.walk).place c.loop-part-test.false ∙ c.loop-part.invariant.code

pub spread_all-returns-clause-progress : goal.spread_all-returns-clause-progress
spread_all-returns-clause-progress t c =
    all_gone c.args.factor c.args.level c.args.parts.now c.loop-part.part-index (progress_of c.loop-part.walk) c.loop-part-test.false ∙ c.loop-part.invariant.progress

pub spread_choice-returns-in_ok-chosen-in-Ok-clause-code : goal.spread_choice-returns-in_ok-chosen-in-Ok-clause-code
spread_choice-returns-in_ok-chosen-in-Ok-clause-code t c =
    both_spread c.args.factor c.args.level (progress_of c.args.walk.now) _ (expr_of c.args.test.now) (statement_of c.args.first.now) (statement_of c.args.other.now) _ _ _
    c.in_ok-first.ensures.code c.in_ok-first.ensures.progress c.in-Ok.ensures.code c.in_ok-chosen-in-Ok.ensures

pub spread_choice-returns-in_ok-chosen-in-Ok-clause-progress : goal.spread_choice-returns-in_ok-chosen-in-Ok-clause-progress
spread_choice-returns-in_ok-chosen-in-Ok-clause-progress t c =
    both_go c.args.factor c.args.level (progress_of c.args.walk.now) _ _ (expr_of c.args.test.now) (statement_of c.args.first.now) (statement_of c.args.other.now) c.in_ok-first.ensures.progress c.in-Ok.ensures.progress

pub spread_loop-returns-then-is_taken-clause-code : goal.spread_loop-returns-then-is_taken-clause-code
spread_loop-returns-then-is_taken-clause-code t c =
    let by = c.args.by in
    taken_code c.args.factor c.args.level (progress_of c.args.walk.now) by.id by.min by.max (statement_of c.args.body.now) c.is_taken.result _ c.is_taken.ensures.taken c.if-is_taken.true c.in_ok-take.ensures.code

pub spread_loop-returns-then-is_taken-clause-progress : goal.spread_loop-returns-then-is_taken-clause-progress
spread_loop-returns-then-is_taken-clause-progress t c =
    let by = c.args.by in
    taken_goes c.args.factor c.args.level (progress_of c.args.walk.now) by.id by.min by.max (statement_of c.args.body.now) c.is_taken.result _ c.is_taken.ensures.taken c.if-is_taken.true c.in_ok-take.ensures.progress

pub spread_loop-returns-clause-code : goal.spread_loop-returns-clause-code
spread_loop-returns-clause-code t c =
    let by = c.args.by in
    kept_code c.args.factor c.args.level (progress_of c.args.walk.now) by.id by.min by.max (statement_of c.args.body.now) c.is_taken.result _ c.in_ok-number.number _ _
    c.is_taken.ensures.taken c.if-is_taken.false c.in_ok-number.ensures.number c.in_ok-number.ensures.progress c.in_ok-body.ensures.code c.in_ok-loop_of.ensures

pub spread_loop-returns-clause-progress : goal.spread_loop-returns-clause-progress
spread_loop-returns-clause-progress t c =
    let by = c.args.by in
    kept_goes c.args.factor c.args.level (progress_of c.args.walk.now) by.id by.min by.max (statement_of c.args.body.now) c.is_taken.result _ _
    c.is_taken.ensures.taken c.if-is_taken.false c.in_ok-number.ensures.progress c.in_ok-body.ensures.progress
