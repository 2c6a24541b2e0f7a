use Rattle.std.proofs.Common.{◌≡◌, map, take}
use Rattle.low_ir.specs.Places.{placing_of, in_slots}
use Rattle.low_ir.specs.View.{function_of}
use Rattle.low_ir.proofs.slots.each_in_slots.Given as goal

abbrev pub invariant-loop-function : goal.invariant-loop-function
invariant-loop-function l = map placing_of l.placings.items ≡ map (λ f. in_slots (function_of f)) (take l.function-index l.functions)
