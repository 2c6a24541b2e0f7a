use Rattle.unroller.proofs.Progress.{one_past}
use Rattle.unroller.proofs.walk.Walk.pass.Goals as goal

pub returns : goal.returns
returns c =
    let w = c.args.self.now in
    one_past w.room w.marks w.loops w.made.items w.entries.items _ c.gone-entry.result c.args.id c.in_ok-push.ensures.items c.gone-entry.ensures
