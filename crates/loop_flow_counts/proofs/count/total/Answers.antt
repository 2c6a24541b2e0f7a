use Rattle.std.proofs.Common.{rules, arith, ◌<◌, ◌^◌, refl}
use Rattle.loop_flow_counts.specs.Made.{total}
use Rattle.loop_flow_counts.proofs.PassLemmas.{total_next, total_end}
use Rattle.loop_flow_counts.proofs.count.total.Goals as goal

pub loop-k-preserved : goal.loop-k-preserved
loop-k-preserved c = total_next c.args.counts.now c.loop-k.k c.loop-k.all _ (total c.args.counts.now) c.loop-k-test.true c.loop-k.invariant refl

pub returns : goal.returns
returns c =
    let f = c.loop-k-test.false in
    let small : c.loop-k.all < 2 ^ 128 = search rules in
    total_end c.args.counts.now c.loop-k.k c.loop-k.all (total c.args.counts.now) (omega (arith, f)) c.loop-k.invariant small
