use Rattle.low_ir.proofs.InSlots.{placings_more}
use Rattle.low_ir.proofs.slots.each_in_slots.Goals as goal

pub loop-function-preserved : goal.loop-function-preserved
loop-function-preserved c =
    placings_more _ _ _ _ _ _ c.loop-function-test.true c.function-item.is c.in_ok-push.ensures.items c.in_ok-slots_of.ensures c.loop-function.invariant
