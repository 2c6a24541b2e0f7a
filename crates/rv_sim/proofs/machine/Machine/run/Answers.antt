use Rattle.rv_sim.proofs.Reaching.{limited-goes, runs-once, runs-more, runs-follow}
use Rattle.rv_sim.proofs.Finishing.{exits-within, within-exits}
use Rattle.rv_sim.proofs.machine.Machine.run.Goals as goal

pub returns-in-Some-clause-follows : goal.returns-in-Some-clause-follows
returns-in-Some-clause-follows c =
    runs-follow c.args.limit c.args.self.now c.step_within.new.self c.in-Some.ending
    (c.loop-ending.invariant _ _ (runs-once c.args.limit c.loop-ending.self c.step_within.new.self c.in-Some.ending c.in-Some.ensures.answer))

pub returns-in-Some-clause-exits : goal.returns-in-Some-clause-exits
returns-in-Some-clause-exits c =
    exits-within c.args.limit c.args.self.now c.step_within.new.self c.in-Some.ending
    (c.loop-ending.invariant _ _ (runs-once c.args.limit c.loop-ending.self c.step_within.new.self c.in-Some.ending c.in-Some.ensures.answer)) (c.keeps_room.ensures)

pub returns-in-Some-clause-finishes : goal.returns-in-Some-clause-finishes
returns-in-Some-clause-finishes c =
    within-exits c.args.limit c.args.self.now c.step_within.new.self c.in-Some.ending
    (c.loop-ending.invariant _ _ (runs-once c.args.limit c.loop-ending.self c.step_within.new.self c.in-Some.ending c.in-Some.ensures.answer))

pub loop-ending-preserved : goal.loop-ending-preserved
loop-ending-preserved c = λ new result r.
    c.loop-ending.invariant new result
    (runs-more c.args.limit c.loop-ending.self c.step_within.new.self new result (limited-goes _ _ _ _ c.in_default.ensures.answer) r)
