use Rattle.std.proofs.Common.{map, take}
use Rattle.std.specs.List.{AllZip}
use Rattle.low_ir.specs.View.{function_of}
use Rattle.pass_jump_threading_law.specs.Threads.{FunctionThreaded}
use Rattle.pass_jump_threading.proofs.program.functions_by.Given as goal

abbrev pub invariant-loop-function : goal.invariant-loop-function
invariant-loop-function l = AllZip FunctionThreaded (map function_of (take l.function-index l.functions)) (map function_of l.made.items)
