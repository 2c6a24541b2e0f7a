use Rattle.std.proofs.Common.{rules, ◌≡◌, ◌+◌, ◌≤◌, arith, subst}
use Rattle.low_ir.specs.Room.{frame_room, repeated}
use Rattle.low_ir.specs.View.{function_of}
use Rattle.pass_strength_reduction.specs.Weighing.{block_worth, worth_in}
use Rattle.low_parts.proofs.Functions.{below_step}
use Rattle.pass_strength_reduction.proofs.weighing.are_bounded.Goals as goal

pub loop-function-preserved : goal.loop-function-preserved
loop-function-preserved c =
    let ws = c.args.worths.now in
    let number = c.loop-function.number in
    let i = c.loop-function.function-index in
    let x = c.function-item.result in
    let at : number ≡ i = c.loop-function.invariant.number in
    let next : c.in-Some.next ≡ number + 1 = search rules in
    record {
      number = omega (arith, next, at);
      all = below_step (λ f fn. frame_room + repeated (block_worth ws) fn.loops 0 fn.blocks ≤ worth_in ws f) c.args.functions.now i x c.loop-function-test.true c.function-item.is
          (subst (λ n. frame_room + repeated (block_worth ws) (function_of x).loops 0 (function_of x).blocks ≤ worth_in ws n) at (c.is_bounded.ensures c.if-not-is_bounded.false)) c.loop-function.invariant.all;
    }
