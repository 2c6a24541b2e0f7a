use Rattle.std.proofs.Common.{◌≡◌, ◌+◌, drop, map}
use Rattle.low_ir.specs.View.{object_of}
use Rattle.layout_cases.specs.Rooms.{rooms}
use Rattle.layout_cases.proofs.rooms.rooms.Given as goal

abbrev pub invariant-loop-object : goal.invariant-loop-object
invariant-loop-object l = l.sum + rooms (map object_of (drop l.object-index l.objects)) ≡ rooms (map object_of l.objects)
