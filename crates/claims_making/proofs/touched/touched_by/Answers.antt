use Rattle.std.proofs.Common.{map, ap, ◌∙◌}
use Rattle.low_ir.specs.View.{claim_of}
use Rattle.claims_definition.specs.Lines.{letters_of}
use Rattle.claims_regions.specs.Seen.{letters_in}
use Rattle.claims_making.specs.Sights.{region_in}
use Rattle.claims_making.proofs.Sighted.{program_seen}
use Rattle.claims_making.proofs.touched.touched_by.Goals as goal

pub returns : goal.returns
returns c = λ m touches.
    let regions = region_in c.args.regions.now in
    c.in_ok-all.ensures
    ∙ program_seen regions c.args.code.now m (map letters_in c.as_slice-2.result.now) c.args.touches.now
    (ap (map letters_in) c.as_slice-2.ensures.value ∙ c.in_ok-claims.ensures ∙ ap (λ cs. map (letters_of regions) (map claim_of cs)) c.as_slice.ensures.value)
    touches
