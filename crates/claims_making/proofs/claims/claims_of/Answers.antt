use Rattle.std.proofs.Common.{subst, sym}
use Rattle.claims_regions.specs.Seen.{AreSeen}
use Rattle.claims_making.proofs.Wholes.{are_seen, claims_same}
use Rattle.claims_making.proofs.claims.claims_of.Goals as goal

pub returns : goal.returns
returns c = λ l whole.
    let y = c.args.laying.now in
    let regions = c.args.regions.now in
    let touches = c.args.touches.now in
    let seen = are_seen y regions touches l whole c.in_ok-touched.touched.items c.in_ok-touched.ensures in
    claims_same y regions touches l whole c.in_ok-exits.exits.items c.in_ok-lines.lines.items c.in_ok-loops.loops.items c.in_ok-claims.claims c.in_ok-claims.ensures c.in_ok-exits.ensures
    (c.in_ok-lines.ensures l whole.is (subst (AreSeen l) (sym c.as_slice.ensures.value) seen))
    (c.in_ok-loops.ensures l whole.is)
