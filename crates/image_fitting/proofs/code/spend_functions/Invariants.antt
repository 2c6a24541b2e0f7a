use Rattle.std.proofs.Common.{◌≡◌, ◌+◌, drop, map}
use Rattle.std.specs.Prelude.{sum_by}
use Rattle.low_ir.specs.Room.{function_room}
use Rattle.low_ir.specs.View.{function_of}
use Rattle.image_fitting.proofs.code.spend_functions.Given as goal

abbrev pub invariant-loop-each : goal.invariant-loop-each
invariant-loop-each l = l.from + sum_by function_room (map function_of (drop l.each-index l.functions)) ≡ l.left + sum_by function_room (map function_of l.functions)
