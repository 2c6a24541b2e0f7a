use Rattle.low_make.proofs.Marks.{marks_pushed}
use Rattle.low_make.proofs.noting.note_unmarked.Goals as goal

pub returns-clause-seen : goal.returns-clause-seen
returns-clause-seen c = marks_pushed c.args.seen.now.items c.mark.new.seen.items c.args.claim.now.items c.push.new.self.items c.args.object c.mark.ensures c.in_ok-push.ensures.items c.requires
