use Rattle.pass_common_subexpressions.proofs.Listing.{learns_listed}
use Rattle.pass_common_subexpressions.proofs.lists.learn.Goals as goal

pub loop-fact-init : goal.loop-fact-init
loop-fact-init c = λ old. old

pub loop-fact-preserved : goal.loop-fact-preserved
loop-fact-preserved c = λ old. learns_listed c.args.list.now c.loop-fact.fact-index _ c.loop-fact.known c.add.new.self c.loop-fact-test.true (c.loop-fact.invariant old) c.add.ensures
