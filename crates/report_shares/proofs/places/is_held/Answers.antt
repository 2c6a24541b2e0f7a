use Rattle.std.proofs.Common.{ap, sym, arith, ◌<◌, length}
use Rattle.std.specs.Prelude.{not, ◌==◌}
use Rattle.report_shares.proofs.PlaceLemmas.{held_past, held_at, held_test, point_before, point_here}
use Rattle.report_shares.proofs.places.is_held.Goals as goal

pub returns-then-place-shares : goal.returns-then-place-shares
returns-then-place-shares c =
    sym (ap (λ n. not (n == 0)) (held_past c.args.shares.now c.place_of-place.result c.args.at c.if-place-shares.true (point_before _ _ _ c.place_of-place.ensures.point)))

pub returns : goal.returns
returns c =
    let long : c.place_of-place.result < length c.args.shares.now = omega (arith, c.place_of-place.ensures.bound, c.if-place-shares.false) in
    held_test _ _ (held_at c.args.shares.now c.place_of-place.result c.args.at c.index-shares-place.result long c.requires.ascending (point_before _ _ _ c.place_of-place.ensures.point) (point_here _ _ _ c.index-shares-place.result long c.place_of-place.ensures.point))
