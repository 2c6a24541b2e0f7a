use Rattle.std.proofs.Common.{◌≡◌, ◌++◌, drop, length, map}
use Rattle.high_ir.specs.View.{function_of}
use Rattle.high_folded.specs.Folded.{folded_functions, kept_in}
use Rattle.high_fold.proofs.program.folded_functions.Given as goal

abbrev pub invariant-loop-function : goal.invariant-loop-function
invariant-loop-function l = record {
  made : map function_of l.made.items ++ folded_functions (length l.kept.items) (map function_of (drop l.function-index l.functions)) ≡ folded_functions (length l.initial.kept.items) (map function_of l.functions);
  kept : l.kept.items ++ kept_in (map function_of (drop l.function-index l.functions)) ≡ l.initial.kept.items ++ kept_in (map function_of l.functions);
}
