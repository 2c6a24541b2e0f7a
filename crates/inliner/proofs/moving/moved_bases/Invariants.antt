use Rattle.std.proofs.Common.{◌≡◌, map, take}
use Rattle.inliner.specs.Moving.{moved_base}
use Rattle.inliner.proofs.moving.moved_bases.Given as goal

abbrev pub invariant-loop-base : goal.invariant-loop-base
invariant-loop-base l = l.moved.items ≡ map (moved_base l.place.arrays.now) (take l.base-index l.arrays)
