use Rattle.std.proofs.Common.{arith}
use Rattle.response_analysis.proofs.Equations.{interference_more}
use Rattle.response_analysis.proofs.equation.interference.Goals as goal

pub loop-i-preserved : goal.loop-i-preserved
loop-i-preserved c =
    let less = c.asked-more.ensures.small in
    let before = c.loop-i.invariant.small in
    record {
      value = interference_more c.args.tasks.now c.args.within c.loop-i.i c.loop-i.sum c.asked-more.result c.loop-i.invariant.value c.asked-more.ensures.value;
      small = omega (arith, less, before);
    }
