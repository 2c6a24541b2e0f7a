use Rattle.std.proofs.Common.{◌≡◌, ◌++◌, drop, map}
use Rattle.claims_regions.specs.Seen.{view}
use Rattle.claims_making.specs.Sights.{seen_in}
use Rattle.claims_making.proofs.touched.touched_in_program.Given as goal

abbrev pub invariant-loop-function : goal.invariant-loop-function
invariant-loop-function l = map (map (map view)) l.all.items ++ map (map (map (seen_in l.sights))) (drop l.function-index l.touches) ≡ map (map (map (seen_in l.sights))) l.touches
