use Rattle.std.proofs.Common.{◌≡◌, ◌++◌, drop}
use Rattle.std.specs.List.{flat_map}
use Rattle.claims_regions.specs.Singles.{singles_in}
use Rattle.claims_regions.proofs.walks.singles_by.Given as goal

abbrev pub invariant-loop-function : goal.invariant-loop-function
invariant-loop-function l = l.lines.items ++ flat_map (singles_in l.touched l.layout) (drop l.function-index l.order) ≡ flat_map (singles_in l.touched l.layout) l.order
