use Rattle.std.proofs.Common.{pos}
use Rattle.loop_worths.proofs.CodeLemmas.{turn_on}
use Rattle.loop_worths.proofs.turn.walk.Goals as goal

pub loop-k-preserved : goal.loop-k-preserved
loop-k-preserved c = turn_on _ c.args.weights.now c.args.first c.args.ways.now c.loop-k.ways _ c.args.steps.now c.loop-k.k (record { at = 0; on = 0; price = pos 0 }) c.loop-k-test.true c.loop-k.invariant c.take.ensures
