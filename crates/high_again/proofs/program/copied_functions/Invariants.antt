use Rattle.std.proofs.Common.{◌≡◌, map, take}
use Rattle.high_ir.specs.View.{function_of}
use Rattle.high_again.proofs.program.copied_functions.Given as goal

abbrev pub invariant-loop-function : goal.invariant-loop-function
invariant-loop-function l = map function_of l.copies.items ≡ map function_of (take l.function-index l.functions)
