use Rattle.std.proofs.Common.{drop, map}
use Rattle.low_ir.specs.View.{function_of}
use Rattle.pass_register_promotion.specs.Checking.{ArePaidBeside}
use Rattle.pass_register_promotion.proofs.program.are_paid.Given as goal

abbrev pub invariant-loop-function : goal.invariant-loop-function
invariant-loop-function l = ArePaidBeside (map function_of (drop l.function-index l.new)) (map function_of l.rest) → ArePaidBeside (map function_of l.new) (map function_of l.old)
