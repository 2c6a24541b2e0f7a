use Rattle.std.proofs.Common.{ap, ◌∙◌}
use Rattle.std.specs.List.{flat_map}
use Rattle.claims_lists.specs.Marks.{marks_in, places_among}
use Rattle.claims_lists.specs.Rows.{ordered}
use Rattle.claims_lists.proofs.Listing.{places_same}
use Rattle.claims_lists.proofs.marks.marked_places.Goals as goal

pub returns : goal.returns
returns c = λ l is mark.
    let y = c.args.laying.now in
    ap (places_among mark)
    (c.in_ok-marks.ensures
    ∙ ap (flat_map (marks_in y.code.now y.layout.now)) (c.as_slice.ensures.value ∙ c.in_ok-order.ensures ∙ ap (ordered y.placed.now) (c.len.ensures ∙ y.layout.now.functions.ok.0)))
    ∙ places_same y l is mark
