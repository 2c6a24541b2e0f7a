use Rattle.std.proofs.Common.{◌≡◌, ◌++◌, drop, map}
use Rattle.low_ir.specs.View.{claim_of, function_of}
use Rattle.pass_constant_hoisting.specs.Holding.{held_functions}
use Rattle.pass_constant_hoisting.proofs.holding.held_functions.Given as goal

abbrev pub invariant-loop-function : goal.invariant-loop-function
invariant-loop-function l = record {
  number : l.number ≡ l.function-index;
  made : map function_of l.made.items ++ held_functions (map claim_of l.words) l.number (map function_of (drop l.function-index l.functions)) ≡ held_functions (map claim_of l.words) 0 (map function_of l.functions);
}
