use Rattle.std.proofs.Common.{◌≡◌, ◌++◌, drop}
use Rattle.std.specs.List.{flat_map}
use Rattle.claims_movables.specs.Alone.{alone_by}
use Rattle.claims_movables.proofs.alone.accesses_by.Given as goal

abbrev pub invariant-loop-function : goal.invariant-loop-function
invariant-loop-function l = l.accesses.items ++ flat_map (alone_by l.claims l.touches l.layout) (drop l.function-index l.order) ≡ flat_map (alone_by l.claims l.touches l.layout) l.order
