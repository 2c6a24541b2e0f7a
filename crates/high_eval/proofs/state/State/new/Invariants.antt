use Rattle.std.proofs.Common.{◌≡◌, map, take}
use Rattle.high_ir.specs.Runs.{contents}
use Rattle.high_ir.specs.View.{object_of}
use Rattle.high_eval.proofs.state.State.new.Given as goal

abbrev pub invariant-loop-object : goal.invariant-loop-object
invariant-loop-object l = l.arrays.items ≡ map (λ o. contents (object_of o)) (take l.object-index l.objects)
