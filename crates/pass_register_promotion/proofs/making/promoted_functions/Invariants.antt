use Rattle.std.proofs.Common.{◌≡◌, ◌++◌, drop, map}
use Rattle.low_ir.specs.View.{function_of}
use Rattle.pass_register_promotion_law.specs.Promoting.{promoted_functions}
use Rattle.pass_register_promotion.specs.Residents.{of_function}
use Rattle.pass_register_promotion.proofs.making.promoted_functions.Given as goal

abbrev pub invariant-loop-function : goal.invariant-loop-function
invariant-loop-function l = record {
  number : l.number ≡ l.function-index;
  made : map function_of l.made.items ++ promoted_functions (map of_function l.residents) l.number (map function_of (drop l.function-index l.functions)) ≡ promoted_functions (map of_function l.residents) 0 (map function_of l.functions);
}
