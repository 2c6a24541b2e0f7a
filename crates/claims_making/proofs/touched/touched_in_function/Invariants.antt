use Rattle.std.proofs.Common.{◌≡◌, ◌++◌, drop, map}
use Rattle.claims_regions.specs.Seen.{view}
use Rattle.claims_making.specs.Sights.{seen_in}
use Rattle.claims_making.proofs.touched.touched_in_function.Given as goal

abbrev pub invariant-loop-block : goal.invariant-loop-block
invariant-loop-block l = map (map view) l.all.items ++ map (map (seen_in l.sights)) (drop l.block-index l.touches) ≡ map (map (seen_in l.sights)) l.touches
