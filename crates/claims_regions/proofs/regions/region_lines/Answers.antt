use Rattle.std.proofs.Common.{ap, ◌∙◌}
use Rattle.std.specs.List.{flat_map}
use Rattle.claims_lists.specs.Rows.{ordered}
use Rattle.claims_regions.specs.Merging.{merged}
use Rattle.claims_regions.specs.Singles.{singles_in}
use Rattle.claims_regions.proofs.Along.{regions_same}
use Rattle.claims_regions.proofs.regions.region_lines.Goals as goal

pub returns : goal.returns
returns c = λ l is seen.
    let y = c.args.laying.now in
    c.in_ok-lines.ensures
    ∙ ap merged (c.as_slice-2.ensures.value ∙ c.in_ok-singles.ensures ∙ ap (flat_map (singles_in c.args.touched.now y.layout.now)) (c.as_slice.ensures.value ∙ c.in_ok-order.ensures ∙ ap (ordered y.placed.now) (c.len.ensures ∙ y.layout.now.functions.ok.0)))
    ∙ regions_same y l c.args.touched.now is seen
