use Rattle.low_make.proofs.Marks.{marks_at}
use Rattle.low_make.proofs.noting.marks_of.Goals as goal

pub loop-object-preserved : goal.loop-object-preserved
loop-object-preserved c = marks_at c.loop-object.seen.items c.mark.new.seen.items c.args.claim.now c.loop-object.object-index c.loop-object-test.true c.mark.ensures c.loop-object.invariant
