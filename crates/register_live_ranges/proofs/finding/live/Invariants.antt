use Rattle.std.proofs.Common.{◌≡◌, length, map}
use Rattle.low_ir.specs.View.{function_of}
use Rattle.register_live_ranges.proofs.Gathering.{FoundBelow}
use Rattle.register_live_ranges.proofs.finding.live.Given as goal

abbrev pub invariant-loop-function : goal.invariant-loop-function
invariant-loop-function l = record {
  long : length l.functions.items ≡ l.function-index;
  found : FoundBelow (map function_of l.code.functions.items) l.functions.items l.function-index;
}
