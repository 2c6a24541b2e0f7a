use Rattle.std.proofs.Common.{◌≡◌, ◌++◌, drop, map}
use Rattle.claims_regions.specs.Seen.{view}
use Rattle.claims_making.specs.Sights.{seen_in}
use Rattle.claims_making.proofs.touched.touched_in_block.Given as goal

abbrev pub invariant-loop-touch : goal.invariant-loop-touch
invariant-loop-touch l = map view l.all.items ++ map (seen_in l.sights) (drop l.touch-index l.touches) ≡ map (seen_in l.sights) l.touches
