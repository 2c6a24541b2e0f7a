use Rattle.std.proofs.Common.{◌+◌, ◌∙◌, ◌||◌, ap, arith}
use Rattle.image_frames.specs.Placings.{is_among, mark_at}
use Rattle.spm_placement.proofs.Marks.{mark_next, marks_end}
use Rattle.spm_placement.proofs.placing.mark_all.Goals as goal

pub loop-number-init : goal.loop-number-init
loop-number-init c = λ k lt. ap (λ b. b || is_among c.args.numbers.now (c.args.first + k)) (c.requires k lt)

pub loop-number-preserved : goal.loop-number-preserved
loop-number-preserved c = λ k lt.
    let long = c.loop-number.auto.marks in
    mark_next c.args.numbers.now c.loop-number.number-index (c.args.first + k) (mark_at c.loop-number.marks k) (mark_at c.mark.new.marks k) c.loop-number-test.true (c.mark.ensures.marks k (omega (arith, lt, long)))
    ∙ c.loop-number.invariant k lt

pub returns-clause-marks : goal.returns-clause-marks
returns-clause-marks c = λ k lt. marks_end c.args.numbers.now c.loop-number.number-index (c.args.first + k) (mark_at c.loop-number.marks k) c.loop-number-test.false (c.loop-number.invariant k lt)
