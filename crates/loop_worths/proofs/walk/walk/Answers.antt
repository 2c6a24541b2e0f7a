use Rattle.std.proofs.Common.{pos}
use Rattle.loop_worths.proofs.CodeLemmas.{walk_on}
use Rattle.loop_worths.proofs.walk.walk.Goals as goal

pub loop-k-preserved : goal.loop-k-preserved
loop-k-preserved c = walk_on c.args.weights.now c.args.worths.now c.loop-k.worths _ c.args.steps.now c.loop-k.k (record { at = 0; on = 0; price = pos 0 }) c.loop-k-test.true c.loop-k.invariant c.take.ensures
