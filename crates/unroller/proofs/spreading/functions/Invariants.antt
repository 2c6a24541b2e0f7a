use Rattle.std.proofs.Common.{◌≡◌, ◌++◌, drop, map}
use Rattle.high_ir.specs.View.{function_of}
use Rattle.high_unrolled.specs.Programs.{functions_spread}
use Rattle.unroller.specs.View.{continued, progress_of}
use Rattle.unroller.proofs.spreading.functions.Given as goal

abbrev pub invariant-loop-each : goal.invariant-loop-each
invariant-loop-each l = record {
  code : map function_of l.made.items ++ (functions_spread l.factor (progress_of l.walk).place (map function_of (drop l.each-index l.functions))).code ≡ (functions_spread l.factor (progress_of l.fn.walk).place (map function_of l.functions)).code;
  progress : continued (progress_of l.walk) (functions_spread l.factor (progress_of l.walk).place (map function_of (drop l.each-index l.functions))) ≡ continued (progress_of l.fn.walk) (functions_spread l.factor (progress_of l.fn.walk).place (map function_of l.functions));
}
