use Rattle.std.proofs.Common.{◌≡◌, ◌++◌, drop, map}
use Rattle.low_ir.specs.View.{function_of}
use Rattle.low_ir.specs.Placings.{placings_of}
use Rattle.image_saving.specs.Walks.{outlines_from, HaveSpots}
use Rattle.image_saving.proofs.walks.described.Given as goal

abbrev pub invariant-loop-number : goal.invariant-loop-number
invariant-loop-number l = record {
  outlines : l.outlines.items ++ outlines_from (placings_of l.code) l.parameters l.number (map function_of (drop l.number l.code.low.functions.items)) ≡ outlines_from (placings_of l.code) l.parameters 0 (map function_of l.code.low.functions.items);
  spots : HaveSpots (map function_of (drop l.number l.code.low.functions.items));
}
