use Rattle.pass_strength_reduction.proofs.Following.{all_more, none_left}
use Rattle.pass_strength_reduction.proofs.ending.all_follow.Goals as goal

pub loop-fact-preserved : goal.loop-fact-preserved
loop-fact-preserved c = λ s known rest. c.loop-fact.invariant s known (all_more s c.args.wanted.now c.loop-fact.fact-index _ c.loop-fact-test.true (c.follows.ensures c.if-not-follows.false s known) rest)

pub returns : goal.returns
returns c = λ done s known. c.loop-fact.invariant s known (none_left s c.args.wanted.now c.loop-fact.fact-index c.loop-fact-test.false)
