use Rattle.std.proofs.Common.{arith, sym, subst}
use Rattle.low_ir.specs.View.{function_of}
use Rattle.register_live_ranges.specs.Intervals.{AreIntervalsOf}
use Rattle.register_allocation.proofs.Gathering.{function_there, placed_all, placed_more}
use Rattle.register_allocation.proofs.allocation.placings.Goals as goal

pub place_function-requires : goal.place_function-requires
place_function-requires c =
    let i = c.loop-number.number in
    let fn = c.index-functions-number.result in
    subst (AreIntervalsOf (function_of fn)) (sym c.of.ensures) (c.requires i (function_of fn) (function_there c.args.functions.now i fn c.loop-number-test.true c.index-functions-number.is))

pub loop-number-preserved : goal.loop-number-preserved
loop-number-preserved c =
    let before = c.loop-number.invariant in
    record {
      long = let long = before.long in let push = c.in_ok-push.ensures.len in omega (arith, long, push);
      placed = placed_more c.args.functions.now _ _ c.loop-number.number c.index-functions-number.result c.in_ok-placing.placing c.loop-number-test.true c.index-functions-number.is before.long c.in_ok-push.ensures.items c.in_ok-placing.ensures before.placed;
    }

pub returns : goal.returns
returns c = placed_all c.args.functions.now c.loop-number.placings.items c.loop-number.number (omega (arith, c.loop-number-test.false)) c.loop-number.invariant.placed
