use Rattle.std.specs.Prelude.{map}
use Rattle.high_pass.specs.Listing.{loop_entry}
use Rattle.unroller.proofs.Progress.{one_marked}
use Rattle.unroller.proofs.walk.Walk.mark.Goals as goal

pub returns-clause-progress : goal.returns-clause-progress
returns-clause-progress c =
    let w = c.args.self.now in
    one_marked w.room w.marks c.in_ok-next.next w.loops w.made.items _ (map loop_entry w.entries.items) c.args.made c.in_ok-next.ensures c.in_ok-push.ensures.items
