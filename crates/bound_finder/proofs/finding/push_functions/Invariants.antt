use Rattle.std.proofs.Common.{◌≡◌, ◌++◌, drop, map}
use Rattle.types_tree.specs.View.{function_of}
use Rattle.facts_loops.specs.CountingLoops.{functions_loops}
use Rattle.bound_finder.proofs.finding.push_functions.Given as goal

abbrev pub invariant-loop-function : goal.invariant-loop-function
invariant-loop-function l = l.loops.items ++ functions_loops l.variables (map function_of (drop l.function-index l.functions)) ≡ l.fn.loops.items ++ functions_loops l.variables (map function_of l.functions)
