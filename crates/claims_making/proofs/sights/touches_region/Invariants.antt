use Rattle.std.proofs.Common.{◌≡◌, drop}
use Rattle.claims_definition.specs.Lines.{touches_region}
use Rattle.claims_making.specs.Sights.{region_in}
use Rattle.claims_making.proofs.sights.touches_region.Given as goal

abbrev pub invariant-loop-array : goal.invariant-loop-array
invariant-loop-array l = touches_region (region_in l.regions) l.region (drop l.array-index l.arrays) ≡ touches_region (region_in l.regions) l.region l.arrays
