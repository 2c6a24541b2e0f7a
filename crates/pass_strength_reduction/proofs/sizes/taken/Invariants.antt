use Rattle.std.proofs.Common.{◌≡◌, ◌+◌, drop, map}
use Rattle.std.specs.Prelude.{sum_by}
use Rattle.low_ir.specs.Room.{function_room}
use Rattle.low_ir.specs.View.{function_of}
use Rattle.pass_strength_reduction.proofs.sizes.taken.Given as goal

abbrev pub invariant-loop-function : goal.invariant-loop-function
invariant-loop-function l = l.total + sum_by function_room (map function_of (drop l.function-index l.functions)) ≡ sum_by function_room (map function_of l.functions)
