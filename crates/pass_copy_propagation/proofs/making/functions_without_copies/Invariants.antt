use Rattle.std.proofs.Common.{map, take}
use Rattle.std.specs.List.{AllZip}
use Rattle.low_ir.specs.View.{function_of}
use Rattle.pass_copy_propagation_law.specs.Copies.{FunctionCopied}
use Rattle.pass_copy_propagation.proofs.making.functions_without_copies.Given as goal

abbrev pub invariant-loop-function : goal.invariant-loop-function
invariant-loop-function l = AllZip FunctionCopied (map function_of (take l.function-index l.functions)) (map function_of l.made.items)
