use Rattle.std.proofs.Common.{ap, map, ◌∙◌}
use Rattle.high_pass.specs.Listing.{mark_entry}
use Rattle.high_parts.specs.Same.{same_mark}
use Rattle.high_parts.proofs.Making.{one_more}
use Rattle.high_parts.proofs.marks.same_marks.Goals as goal

pub loop-mark-preserved : goal.loop-mark-preserved
loop-mark-preserved c = ap (map mark_entry) c.in_ok-push.ensures.items ∙ one_more mark_entry same_mark c.loop-mark.copies.items c.in_ok-same_mark.field-0 c.loop-mark.mark c.loop-mark.invariant c.in_ok-same_mark.ensures
