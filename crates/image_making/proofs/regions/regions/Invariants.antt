use Rattle.std.proofs.Common.{◌≡◌, ◌++◌, drop, map}
use Rattle.low_ir.specs.View.{object_of}
use Rattle.image_making.specs.Regions.{regions_from}
use Rattle.image_making.proofs.regions.regions.Given as goal

abbrev pub invariant-loop-number : goal.invariant-loop-number
invariant-loop-number l = l.regions.items ++ regions_from l.placement.objects l.number (map object_of (drop l.number l.code.low.objects.items)) ≡ regions_from l.placement.objects 0 (map object_of l.code.low.objects.items)
