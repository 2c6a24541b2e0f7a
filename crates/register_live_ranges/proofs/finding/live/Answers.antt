use Rattle.std.proofs.Common.{◌≡◌, ◌<◌, List, arith, get_or, length, rules, subst, sym}
use Rattle.low_ir.specs.declared.low.Function as functions
use Rattle.low_ir.specs.Programs.{low_of}
use Rattle.low_ir.specs.View.{function_of}
use Rattle.register_live_ranges.specs.Intervals.{AreIntervals, AreIntervalsOf}
use Rattle.register_live_ranges.proofs.Gathering.{all_functions, function_more}
use Rattle.register_live_ranges.proofs.finding.live.Goals as goal

pub loop-function-preserved : goal.loop-function-preserved
loop-function-preserved c =
    let before = c.loop-function.invariant in
    let i = c.loop-function.function-index in
    let f = c.function-item.result in
    let e : c.deref-function-items.result.now ≡ c.args.code.now.functions.items = search rules in
    let lt = subst (λ (xs : List functions.Function). c.loop-function.function-index < length xs) e c.loop-function-test.true in
    let is = subst (λ (xs : List functions.Function). c.function-item.result ≡ get_or xs c.loop-function.function-index c.function-item.result) e c.function-item.is in
    record {
      long = let long = before.long in let push = c.in_ok-push.ensures.len in omega (arith, long, push);
      found = function_more c.args.code.now.functions.items _ _ i f _ lt is before.long c.in_ok-push.ensures.items (subst (AreIntervalsOf (function_of f)) (sym c.new.ensures) c.in_ok-intervals_of.ensures) before.found;
    }

pub returns : goal.returns
returns c =
    subst (AreIntervals (low_of c.args.code.now)) (sym c.new-2.ensures) (all_functions _ _ _ (omega (arith, c.loop-function-test.false)) c.loop-function.invariant.found)
