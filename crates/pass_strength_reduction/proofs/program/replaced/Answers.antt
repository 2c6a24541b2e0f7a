use Rattle.std.proofs.Common.{◌≤◌, ◌*◌, List, map, subst}
use Rattle.std.specs.Prelude.{sum_by}
use Rattle.low_ir.specs.declared.low.Function.{Function}
use Rattle.low_ir.specs.Room.{function_room}
use Rattle.low_ir.specs.View.{function_of}
use Rattle.pass_strength_reduction.proofs.program.replaced.Goals as goal

pub with_plan-requires-clause-small : goal.with_plan-requires-clause-small
with_plan-requires-clause-small c =
    let one = subst (λ (fs : List Function). sum_by function_room (map function_of fs) ≤ 2 * sum_by function_room (map function_of c.deref-2.result.now)) c.deref.ensures.value (c.is_small_beside.ensures c.if-is_small_beside.true) in
    subst (λ (fs : List Function). sum_by function_room (map function_of c.args.plan.functions.items) ≤ 2 * sum_by function_room (map function_of fs)) c.deref-2.ensures.value one
