use Rattle.std.proofs.Common.{◌≡◌, ◌<◌, ◌≤◌, Some, ap, arith, get_or, length, refl, sym, ◌∙◌}
use Rattle.std.specs.Prelude.{slice_get}
use Rattle.std.proofs.lemmas.Option.{slice_get-get_or}
use Rattle.try_sources.specs.Verdicts.{passed}
use Rattle.try_sources.proofs.Counts.{alike_at, all_alike, one_more, one_too_many}
use Rattle.try_sources.proofs.comparing.other_count.Goals as goal

pub loop-number-preserved : goal.loop-number-preserved
loop-number-preserved c =
    let n = c.loop-number.number in
    let mark : slice_get c.args.marks.now n ≡ Some c.in-Some.mark.now = slice_get-get_or c.args.marks.now n c.in-Some.mark.now c.in-Some.ensures.lookup.3.0 ∙ ap Some (sym c.in-Some.ensures.lookup.1) in
    let same : passed c.args.trace.now c.in-Some.mark.now.new.items ≡ get_or c.args.counts.now n 0 = ap (passed c.args.trace.now) (sym c.deref.ensures.value) ∙ c.if-not-add_up.ensures.0 refl in
    one_more c.args.trace.now c.args.marks.now c.args.counts.now n c.loop-number.invariant
    (alike_at c.args.trace.now c.args.marks.now c.args.counts.now n (get_or c.args.counts.now n 0) c.in-Some.mark.now mark (slice_get-get_or c.args.counts.now n 0 c.loop-number-test.true) same)

pub returns-then-marks-counts : goal.returns-then-marks-counts
returns-then-marks-counts c =
    let more : length c.args.counts.now < length c.args.marks.now = omega (arith, c.if-marks-counts.true) in
    one_too_many c.args.trace.now c.args.marks.now c.args.counts.now more

pub returns : goal.returns
returns c =
    let fewer : length c.args.marks.now ≤ length c.args.counts.now = omega (arith, c.if-marks-counts.false) in
    all_alike c.args.trace.now c.args.marks.now c.args.counts.now fewer (λ k within. c.loop-number.invariant k (omega (arith, within, c.loop-number-test.false)))
