use Rattle.std.proofs.Common.{arith}
use Rattle.response_analysis.proofs.Rising.{task_at}
use Rattle.response_analysis.proofs.Found.{over_period, by_number}
use Rattle.response_analysis.proofs.checking.is_response.Goals as goal

pub returns-then-response-period : goal.returns-then-response-period
returns-then-response-period c = over_period c.args.tasks.now c.args.i c.args.response c.if-response-period.true

pub workload-requires-clause-within : goal.workload-requires-clause-within
workload-requires-clause-within c =
    let t = task_at c.args.tasks.now c.requires.tasks c.args.i c.requires.there in
    let short = t.0 in
    omega (arith, short)

pub returns : goal.returns
returns c = by_number c.args.tasks.now c.args.i c.args.response c.workload.result c.from.result c.workload.ensures c.from.ensures (omega arith)
