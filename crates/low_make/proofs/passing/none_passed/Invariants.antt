use Rattle.std.proofs.Common.{◌≡◌, map, take}
use Rattle.high_ir.specs.View.{function_of}
use Rattle.low_make.specs.View.{passed_of}
use Rattle.lower_definition.specs.Calls.{none_passed}
use Rattle.low_make.proofs.passing.none_passed.Given as goal

abbrev pub invariant-loop-function : goal.invariant-loop-function
invariant-loop-function l = passed_of l.passed.items ≡ none_passed (map function_of (take l.function-index l.functions))
