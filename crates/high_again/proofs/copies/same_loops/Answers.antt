use Rattle.std.proofs.Common.{ap, map, ◌∙◌}
use Rattle.high_pass.specs.Listing.{loop_entry}
use Rattle.high_again.specs.Same.{same_loop}
use Rattle.high_parts.proofs.Making.{one_more}
use Rattle.high_again.proofs.copies.same_loops.Goals as goal

pub loop-id-preserved : goal.loop-id-preserved
loop-id-preserved c = ap (map loop_entry) c.in_ok-push.ensures.items ∙ one_more loop_entry same_loop c.loop-id.copies.items c.in_ok-same_loop.field-0 c.loop-id.id c.loop-id.invariant c.in_ok-same_loop.ensures
