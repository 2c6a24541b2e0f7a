use Rattle.rv_sim.proofs.Reaching.{unlimited-follows}
use Rattle.rv_sim.proofs.machine.Machine.step.Goals as goal

pub returns-clause-follows : goal.returns-clause-follows
returns-clause-follows c = unlimited-follows c.args.self.now c.step_within.new.self c.step_within.result c.step_within.ensures.answer
