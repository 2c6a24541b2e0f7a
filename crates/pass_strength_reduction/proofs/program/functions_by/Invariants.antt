use Rattle.std.proofs.Common.{drop, map}
use Rattle.low_ir.specs.View.{function_of}
use Rattle.pass_strength_reduction.specs.Changing.{FunctionsSoFar}
use Rattle.pass_strength_reduction.proofs.program.functions_by.Given as goal

abbrev pub invariant-loop-function : goal.invariant-loop-function
invariant-loop-function l = FunctionsSoFar l.around.claims.now l.around.alone.now l.around.objects (map function_of l.functions) (map function_of (drop l.function-index l.functions)) (map function_of l.made.items)
