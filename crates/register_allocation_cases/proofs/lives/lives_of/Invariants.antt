use Rattle.std.proofs.Common.{◌≡◌, length, map}
use Rattle.low_ir.specs.View.{function_of}
use Rattle.register_live_ranges.proofs.Gathering.{FoundBelow}
use Rattle.register_allocation_cases.proofs.lives.lives_of.Given as goal

abbrev pub invariant-loop-function : goal.invariant-loop-function
invariant-loop-function l = record {
  long : length l.lives.items ≡ l.function-index;
  found : FoundBelow (map function_of l.functions) l.lives.items l.function-index;
}
