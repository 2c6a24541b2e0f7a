use Rattle.std.proofs.Common.{drop, map}
use Rattle.low_ir.specs.View.{claim_of, function_of}
use Rattle.pass_common_subexpressions_law.specs.Reloads.{FunctionReloaded}
use Rattle.low_parts.specs.Filling.{ZipsSoFar}
use Rattle.pass_common_subexpressions.proofs.making.functions_without_reloads.Given as goal

abbrev pub invariant-loop-function : goal.invariant-loop-function
invariant-loop-function l = ZipsSoFar (FunctionReloaded (map claim_of l.claims)) (map function_of l.functions) (map function_of (drop l.function-index l.functions)) (map function_of l.made.items)
