use Rattle.std.proofs.Common.{arith, refl}
use Rattle.loop_flow_counts.proofs.PassLemmas.{clear_next}
use Rattle.loop_flow_counts.proofs.count.clear.Goals as goal

pub loop-place-preserved : goal.loop-place-preserved
loop-place-preserved c =
    let t = c.loop-place-test.true in
    let b = c.requires in
    let l = c.loop-place.auto.counts in
    clear_next c.loop-place.counts _ c.args.from c.args.to c.loop-place.place (omega (arith, t, b, l)) c.loop-place.invariant refl

pub returns : goal.returns
returns c = λ a ge lt. let f = c.loop-place-test.false in c.loop-place.invariant a ge (omega (arith, f, lt))
