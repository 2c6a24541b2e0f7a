use Rattle.std.proofs.Common.{ap, sym, ◌∙◌, arith, ◌<◌, length}
use Rattle.std.proofs.lemmas.List.{get_or_default}
use Rattle.report_shares.proofs.PlaceLemmas.{begins_past, begins_at, begun_test, other_begun, point_before, point_here}
use Rattle.report_shares.proofs.places.begins.Goals as goal

pub returns-then-place-shares : goal.returns-then-place-shares
returns-then-place-shares c =
    sym (begins_past c.args.shares.now c.place_of-place.result c.args.at c.if-place-shares.true c.requires.shares (point_before _ _ _ c.place_of-place.ensures.point))

pub returns-then-shares-place : goal.returns-then-shares-place
returns-then-shares-place c =
    let long : c.place_of-place.result < length c.args.shares.now = omega (arith, c.place_of-place.ensures.bound, c.if-place-shares.false) in
    sym (
    begins_at c.args.shares.now c.place_of-place.result c.args.at c.index-shares-place.result long c.requires.ascending c.requires.shares (point_before _ _ _ c.place_of-place.ensures.point) (point_here _ _ _ c.index-shares-place.result long c.place_of-place.ensures.point)
    ∙ other_begun _ _ _ c.if-shares-place.true
    )

pub returns : goal.returns
returns c =
    let long : c.place_of-place.result < length c.args.shares.now = omega (arith, c.place_of-place.ensures.bound, c.if-place-shares.false) in
    let same = ap (λ h. h.first) (get_or_default c.args.shares.now c.place_of-place.result c.index-shares-place-2.result c.index-shares-place.result long) ∙ c.if-shares-place.false in
    c.is_some.ensures
    ∙ sym (
    begins_at c.args.shares.now c.place_of-place.result c.args.at c.index-shares-place-2.result long c.requires.ascending c.requires.shares (point_before _ _ _ c.place_of-place.ensures.point) (point_here _ _ _ c.index-shares-place-2.result long c.place_of-place.ensures.point)
    ∙ begun_test _ _ _ same
    )
