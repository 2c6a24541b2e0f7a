use Rattle.std.proofs.Common.{arith}
use Rattle.response_analysis.proofs.Equations.{positive_periods}
use Rattle.response_analysis.proofs.InTime.{end_in_time}
use Rattle.response_analysis.proofs.Reached.{are_reached, are_responses}
use Rattle.response_analysis.proofs.Found.{found_begins, found_more, found_all, found_late}
use Rattle.response_analysis.proofs.responding.responses.Goals as goal

pub loop-i-init : goal.loop-i-init
loop-i-init c = found_begins c.args.tasks.now _ c.new-found.ensures.items

pub loop-i-preserved : goal.loop-i-preserved
loop-i-preserved c = rw c.in-Ok.ensures (found_more c.args.tasks.now c.loop-i.i c.in-Some.least c.loop-i.found.items c.loop-i.invariant c.in-Some.ensures)

pub returns-in-None-clause-err : goal.returns-in-None-clause-err
returns-in-None-clause-err c = found_late c.args.tasks.now c.loop-i.i c.loop-i.found.items c.loop-i.invariant (omega arith) c.in-None.ensures

pub returns-clause-least : goal.returns-clause-least
returns-clause-least c = found_all c.args.tasks.now c.loop-i.i c.loop-i.found.items c.loop-i.invariant (omega arith) (omega arith)

pub returns-clause-fixed : goal.returns-clause-fixed
returns-clause-fixed c =
    are_responses c.args.tasks.now c.loop-i.found.items (found_all c.args.tasks.now c.loop-i.i c.loop-i.found.items c.loop-i.invariant (omega arith) (omega arith))

pub returns-clause-ends : goal.returns-clause-ends
returns-clause-ends c =
    end_in_time c.args.tasks.now c.loop-i.found.items (positive_periods c.args.tasks.now c.requires)
    (are_responses c.args.tasks.now c.loop-i.found.items (found_all c.args.tasks.now c.loop-i.i c.loop-i.found.items c.loop-i.invariant (omega arith) (omega arith)))

pub returns-clause-reached : goal.returns-clause-reached
returns-clause-reached c =
    are_reached c.args.tasks.now c.loop-i.found.items (positive_periods c.args.tasks.now c.requires) (found_all c.args.tasks.now c.loop-i.i c.loop-i.found.items c.loop-i.invariant (omega arith) (omega arith))
