use Rattle.rv_sim.proofs.Stopping.{store-stopped}
use Rattle.rv_sim.proofs.machine.Machine.finish_store.Goals as goal

pub returns-then-not-pay-clause-answer : goal.returns-then-not-pay-clause-answer
returns-then-not-pay-clause-answer c =
    store-stopped c.args.issue.now.limit c.args.self.now c.pay.new.self c.args.issue.now.instr c.args.width c.args.at _ c.args.place.now c.requires.place c.requires.issues.running
    c.if-not-pay.ensures.room c.if-not-pay.ensures.paid
