use Rattle.std.proofs.Common.{◌≡◌, ◌++◌, drop, map}
use Rattle.claims_lists.specs.Lists.{range_in, range_of}
use Rattle.claims_lists.proofs.ranges.ranges_by.Given as goal

abbrev pub invariant-loop-function : goal.invariant-loop-function
invariant-loop-function l = map range_of l.ranges.items ++ map (range_in l.laying.code.now l.laying.layout.now) (drop l.function-index l.order) ≡ map (range_in l.laying.code.now l.laying.layout.now) l.order
