use Rattle.unroller.proofs.Progress.{one_met}
use Rattle.unroller.proofs.walk.Walk.meet.Goals as goal

pub returns-clause-progress : goal.returns-clause-progress
returns-clause-progress c =
    let w = c.args.self.now in
    one_met w.room w.marks w.loops c.in_ok-next.next w.made.items w.entries.items _ c.in_ok-entry.entry c.args.id c.args.factor c.in_ok-next.ensures c.in_ok-push.ensures.items c.in_ok-entry.ensures
