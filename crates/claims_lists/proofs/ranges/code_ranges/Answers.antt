use Rattle.std.proofs.Common.{map, ap, ◌∙◌}
use Rattle.claims_lists.specs.Lists.{range_in}
use Rattle.claims_lists.specs.Rows.{ordered}
use Rattle.claims_lists.proofs.Listing.{ranges_same}
use Rattle.claims_lists.proofs.ranges.code_ranges.Goals as goal

pub returns : goal.returns
returns c = λ l is.
    let y = c.args.laying.now in
    c.in_ok-ranges.ensures
    ∙ ap (map (range_in y.code.now y.layout.now)) (c.as_slice.ensures.value ∙ c.in_ok-order.ensures ∙ ap (ordered y.placed.now) (c.len.ensures ∙ y.layout.now.functions.ok.0))
    ∙ ranges_same y l is
