use Rattle.std.proofs.Common.{arith}
use Rattle.response_analysis.proofs.Rising.{task_at}
use Rattle.response_analysis.proofs.equation.workload.Goals as goal

pub overflow_add-result : goal.overflow_add-result
overflow_add-result c =
    let t = task_at c.args.tasks.now c.requires.tasks c.args.i c.requires.there in
    let small = t.1 in
    let few = c.requires.tasks.few in
    let own = c.from.ensures in
    let others = c.interference.ensures.small in
    let there = c.requires.there in
    omega (arith, small, few, own, others, there)
