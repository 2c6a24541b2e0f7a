use Rattle.std.proofs.Common.{◌≡◌, map, take}
use Rattle.low_ir.specs.Effects.{contents}
use Rattle.low_ir.specs.View.{object_of}
use Rattle.low_eval.proofs.world.World.new.Given as goal

abbrev pub invariant-loop-object : goal.invariant-loop-object
invariant-loop-object l = l.arrays.items ≡ map (λ o. contents (object_of o)) (take l.object-index l.objects)
