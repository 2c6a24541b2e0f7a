use Rattle.std.proofs.Common.{◌≡◌, ◌++◌, drop, map}
use Rattle.low_ir.specs.View.{function_of}
use Rattle.low_ir.specs.Placings.{assignment_of}
use Rattle.image_saving.specs.Walks.{parameters_from}
use Rattle.image_saving.proofs.walks.parameters.Given as goal

abbrev pub invariant-loop-number : goal.invariant-loop-number
invariant-loop-number l = l.all.items ++ parameters_from (assignment_of l.code) l.number (map function_of (drop l.number l.code.low.functions.items)) ≡ parameters_from (assignment_of l.code) 0 (map function_of l.code.low.functions.items)
