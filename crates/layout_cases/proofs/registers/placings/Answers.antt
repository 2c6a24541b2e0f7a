use Rattle.layout_cases.proofs.Registered.{placings_more}
use Rattle.layout_cases.proofs.registers.placings.Goals as goal

pub loop-function-preserved : goal.loop-function-preserved
loop-function-preserved c =
    placings_more _ _ _ _ _ _ c.loop-function-test.true c.function-item.is c.in_ok-push.ensures.items c.in_ok-placing.ensures c.loop-function.invariant
