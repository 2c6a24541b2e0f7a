use Rattle.std.proofs.Common.{arith, map, subst, sym}
use Rattle.low_ir.specs.View.{function_of}
use Rattle.register_live_ranges.specs.Intervals.{AreIntervalsOf}
use Rattle.register_live_ranges.proofs.Gathering.{all_functions, function_more}
use Rattle.register_allocation.specs.Fitting.{HaveIntervals}
use Rattle.register_allocation_cases.proofs.lives.lives_of.Goals as goal

pub loop-function-preserved : goal.loop-function-preserved
loop-function-preserved c =
    let before = c.loop-function.invariant in
    let f = c.function-item.result in
    record {
      long = let long = before.long in let push = c.in_ok-push.ensures.len in omega (arith, long, push);
      found = function_more c.args.functions.now _ _ c.loop-function.function-index f _ c.loop-function-test.true c.function-item.is before.long c.in_ok-push.ensures.items (subst (AreIntervalsOf (function_of f)) (sym c.new.ensures) c.in_ok-intervals_of.ensures) before.found;
    }

pub returns : goal.returns
returns c =
    subst (HaveIntervals (map function_of c.args.functions.now)) (sym c.new-2.ensures) (all_functions _ _ _ (omega (arith, c.loop-function-test.false)) c.loop-function.invariant.found)
