use Rattle.std.proofs.Common.{◌≡◌, ◌++◌, drop, map}
use Rattle.low_ir.specs.View.{object_of}
use Rattle.claims_making.specs.Sights.{region_in}
use Rattle.claims_movables.specs.Listed.{arrays_in}
use Rattle.claims_definition.specs.Movables.{movable_of}
use Rattle.claims_movables.proofs.arrays.put_arrays.Given as goal

abbrev pub invariant-loop-number : goal.invariant-loop-number
invariant-loop-number l = map movable_of l.items.items ++ arrays_in l.arrays.functions (region_in l.arrays.regions.now) l.arrays.lists.now l.number (map object_of (drop l.number l.objects)) ≡ map movable_of l.initial.items.items ++ arrays_in l.arrays.functions (region_in l.arrays.regions.now) l.arrays.lists.now 0 (map object_of l.objects)
