use Rattle.claims_lists.proofs.Listing.{spans_more}
use Rattle.claims_lists.proofs.shapes.spans_in.Goals as goal

pub loop-function-preserved : goal.loop-function-preserved
loop-function-preserved c = spans_more c.args.layout.now c.loop-function.function c.loop-function.spans.items c.put_span.new.spans.items c.loop-function.invariant c.in_ok-put_span.ensures
