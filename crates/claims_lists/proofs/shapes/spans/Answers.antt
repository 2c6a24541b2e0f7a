use Rattle.std.proofs.Common.{◌∙◌}
use Rattle.claims_lists.proofs.Listing.{spans_same}
use Rattle.claims_lists.proofs.shapes.spans.Goals as goal

pub returns : goal.returns
returns c = λ l is. c.in_ok-spans.ensures ∙ spans_same c.args.laying.now l is
