use Rattle.std.proofs.Common.{◌≡◌, ◌++◌, drop, map}
use Rattle.types_tree.specs.View.{function_of}
use Rattle.make_loops.specs.Numbers.{functions_numbers}
use Rattle.make_loops.proofs.walk.loops_of.Given as goal

abbrev pub invariant-loop-function : goal.invariant-loop-function
invariant-loop-function l = l.loops.items ++ functions_numbers (map function_of (drop l.function-index l.functions)) ≡ functions_numbers (map function_of l.functions)
