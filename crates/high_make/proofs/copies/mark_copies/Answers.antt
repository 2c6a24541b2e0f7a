use Rattle.std.proofs.Common.{ap, map, ◌∙◌}
use Rattle.high_pass.specs.Listing.{mark_entry}
use Rattle.high_make.proofs.Marks.{one_more}
use Rattle.high_make.proofs.copies.mark_copies.Goals as goal

pub loop-mark-preserved : goal.loop-mark-preserved
loop-mark-preserved c = ap (map mark_entry) c.in_ok-push.ensures.items ∙ one_more c.loop-mark.copies.items c.in_ok-mark_copy.field-0 c.loop-mark.mark c.loop-mark.invariant c.in_ok-mark_copy.ensures
