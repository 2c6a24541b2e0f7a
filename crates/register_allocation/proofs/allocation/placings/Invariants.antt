use Rattle.std.proofs.Common.{◌≡◌, length, map}
use Rattle.low_ir.specs.Places.{placing_of}
use Rattle.low_ir.specs.View.{function_of}
use Rattle.register_allocation.proofs.Gathering.{PlacedBelow}
use Rattle.register_allocation.proofs.allocation.placings.Given as goal

abbrev pub invariant-loop-number : goal.invariant-loop-number
invariant-loop-number l = record {
  long : length l.placings.items ≡ l.number;
  placed : PlacedBelow (map function_of l.functions) (map placing_of l.placings.items) l.number;
}
