use Rattle.std.proofs.Common.{◌≡◌, map, take}
use Rattle.low_ir.specs.Places.{placing_of}
use Rattle.low_ir.specs.View.{function_of}
use Rattle.layout_cases.specs.Registers.{in_registers}
use Rattle.layout_cases.proofs.registers.placings.Given as goal

abbrev pub invariant-loop-function : goal.invariant-loop-function
invariant-loop-function l = map placing_of l.all.items ≡ map (λ f. in_registers (function_of f)) (take l.function-index l.functions)
