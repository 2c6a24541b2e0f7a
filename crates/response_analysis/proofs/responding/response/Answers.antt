use Rattle.std.proofs.Common.{arith}
use Rattle.response_analysis.proofs.Rising.{rising_begins, rising_few, rising_rises, rising_late}
use Rattle.response_analysis.proofs.responding.response.Goals as goal

pub rising-init : goal.rising-init
rising-init c = rising_begins c.args.tasks.now c.args.i

pub workload-load-requires-clause-within : goal.workload-load-requires-clause-within
workload-load-requires-clause-within c = rising_few c.args.tasks.now c.requires.tasks c.args.i c.rising.within c.requires.there c.rising.invariant

pub returns-then-load-period : goal.returns-then-load-period
returns-then-load-period c =
    rising_late c.args.tasks.now c.requires.tasks c.args.i c.rising.within c.workload-load.result c.requires.there c.rising.invariant c.workload-load.ensures (omega arith)

pub rising-smaller : goal.rising-smaller
rising-smaller c =
    let rises = rising_rises c.args.tasks.now c.requires.tasks c.args.i c.rising.within c.requires.there c.rising.invariant in
    let load = c.workload-load.ensures in
    let more = c.rise-next.ensures.more in
    omega (arith, rises, load, more)
